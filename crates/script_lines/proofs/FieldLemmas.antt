-- The values of serde_json, and the definitions of fields.
use Rattle.std.proofs.Common.{◌≡◌, ℕ, zero, suc, ◌+◌, ◌<◌, ◌≢◌, ◌&&◌, List, [], ◌∷◌, ◌++◌, length, map, take, get_or, Option, Some, None, refl, ap, sym, ◌∙◌, arith, String, string_bytes}
use Rattle.std.specs.declared.alloc.Global.{Global}
use Rattle.std.specs.List.{list_all}
use Rattle.serde_json.specs.declared.value.Value.{Value}
use Rattle.serde_json.specs.View.{view, items_view, members_view}
use Rattle.serde_json.specs.Data.{Data, null, boolean, number, string, array, object, Members}
use Rattle.serde_json.specs.Find.{as_object}
use Rattle.script_lines.specs.Fields.{is_name, keys_among, has_only, all_of, two_of, positions_in}
use Rattle.script_lines.specs.Reading.{◌>>=◌}
use Rattle.script_lines.specs.EditCommands.{op_in, some_ops_in}

pub keys_among-members_view : (names : List (List ℕ)) (es : List (String Global × Value))
    → keys_among names (members_view es) ≡ list_all (λ key. is_name names (string_bytes key)) (map (λ e. e.0) es)
keys_among-members_view names [] = refl
keys_among-members_view names (e ∷ es) = ap (λ b. is_name names (string_bytes e.0) && b) (keys_among-members_view names es)

-- a reading of two items gives None for any other number of items
pub two_of_other : {X : Type 0} (reads : Data → Data → Option X) (vs : List Value) → length vs ≢ 2 → two_of reads (items_view vs) ≡ None
two_of_other reads [] other = refl
two_of_other reads (v ∷ []) other = refl
two_of_other reads (v ∷ w ∷ []) other = absurd (other refl)
two_of_other reads (v ∷ w ∷ x ∷ vs) other = refl

-- the fields of an object
pub has_only-as_object : (names : List (List ℕ)) (d : Data) (ms : Members) → as_object d ≡ Some ms → has_only names d ≡ keys_among names ms
has_only-as_object names null ms is = cc
has_only-as_object names (boolean b) ms is = cc
has_only-as_object names (number n) ms is = cc
has_only-as_object names (string s) ms is = cc
has_only-as_object names (array ds) ms is = cc
has_only-as_object names (object ns) ms is =
    let same : ns ≡ ms = cc in
    ap (keys_among names) same

abbrev joined : {X : Type 0} → Option X → Option (List X) → Option (List X)
joined first rest = first >>= (λ x. rest >>= (λ xs. Some (x ∷ xs)))

joined_some : {X : Type 0} (first : Option X) (rest : Option (List X)) (all : List X) → joined first rest ≡ Some all
    → (x : X) × (xs : List X) × (first ≡ Some x) × (rest ≡ Some xs) × (all ≡ x ∷ xs)
joined_some None rest all is = absurd cc
joined_some (Some x) None all is = absurd cc
joined_some (Some x) (Some xs) all is = (x, xs, refl, refl, cc)

joined_none : {X : Type 0} (first : Option X) → joined first None ≡ None
joined_none None = refl
joined_none (Some x) = refl

more_read : {X : Type 0} (reads : Data → Option X) (vs : List Value) (i : ℕ) (d : Value) (x : X) (xs : List X) → i < length vs
    → reads (view (get_or vs i d)) ≡ Some x → all_of reads (items_view (take i vs)) ≡ Some xs
    → all_of reads (items_view (take (i + 1) vs)) ≡ Some (xs ++ x ∷ [])
more_read reads [] i d x xs inside next read = absurd (omega arith)
more_read reads (v ∷ vs) zero d x xs inside next read =
    let none : xs ≡ [] = cc in
    rw (next, none) refl
more_read reads (v ∷ vs) (suc i) d x xs inside next read =
    let parts = joined_some (reads (view v)) (all_of reads (items_view (take i vs))) xs read in
    let more = more_read reads vs i d x parts.1 (omega arith) next parts.3 in
    let count : suc i + 1 ≡ suc (i + 1) = omega arith in
    rw count (ap (λ o. joined o (all_of reads (items_view (take (i + 1) vs)))) parts.2 ∙ ap (joined (Some parts.0)) more ∙ ap (λ l. Some (l ++ x ∷ [])) (sym parts.4))

one_refused : {X : Type 0} (reads : Data → Option X) (vs : List Value) (i : ℕ) (d : Value) → i < length vs
    → reads (view (get_or vs i d)) ≡ None → all_of reads (items_view vs) ≡ None
one_refused reads [] i d inside none = absurd (omega arith)
one_refused reads (v ∷ vs) zero d inside none = rw none refl
one_refused reads (v ∷ vs) (suc i) d inside none = rw (one_refused reads vs i d (omega arith) none) (joined_none (reads (view v)))

-- the item at place i was read as well
pub all_of_more : {X : Type 0} (reads : Data → Option X) (vs : List Value) (i : ℕ) (v : Value) (x : X) (xs : List X) → i < length vs
    → v ≡ get_or vs i v → reads (view v) ≡ Some x → all_of reads (items_view (take i vs)) ≡ Some xs
    → all_of reads (items_view (take (i + 1) vs)) ≡ Some (xs ++ x ∷ [])
all_of_more reads vs i v x xs inside at next read = more_read reads vs i v x xs inside (ap (λ w. reads (view w)) (sym at) ∙ next) read

-- if one item is invalid, so is the whole list
pub all_of_refused : {X : Type 0} (reads : Data → Option X) (vs : List Value) (i : ℕ) (v : Value) → i < length vs
    → v ≡ get_or vs i v → reads (view v) ≡ None → all_of reads (items_view vs) ≡ None
all_of_refused reads vs i v inside at none = one_refused reads vs i v inside (ap (λ w. reads (view w)) (sym at) ∙ none)

pub some_ops_in-some : (vs : List Value) → 0 < length vs → some_ops_in (items_view vs) ≡ all_of op_in (items_view vs)
some_ops_in-some [] some = absurd (omega arith)
some_ops_in-some (v ∷ vs) some = refl

pub positions_in_other : (vs : List Value) → length vs ≢ 4 → positions_in (items_view vs) ≡ None
positions_in_other [] other = refl
positions_in_other (a ∷ []) other = refl
positions_in_other (a ∷ b ∷ []) other = refl
positions_in_other (a ∷ b ∷ c ∷ []) other = refl
positions_in_other (a ∷ b ∷ c ∷ d ∷ []) other = absurd (other refl)
positions_in_other (a ∷ b ∷ c ∷ d ∷ e ∷ vs) other = refl
