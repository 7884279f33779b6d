-- The set after new decorations are inserted one after another.
use Rattle.std.proofs.Common.{◌≡◌, ℕ, ◌+◌, ◌<◌, ◌≤◌, suc, false, List, [], ◌∷◌, ◌++◌, length, take, get_or, refl, sym, ◌∙◌, ap, subst, arith}
use Rattle.std.specs.List.{All}
use Rattle.std.proofs.lemmas.Bool.{ne_eqb}
use Rattle.std.proofs.lemmas.List.{append-nil, append_assoc, take_more, length-take-le}
use Rattle.std.proofs.lemmas.List.Elements.{All-push, All-weaker}
use Rattle.decoration_rules.specs.declared.Mark.{Mark}
use Rattle.decoration_rules.specs.declared.NewDeco.{NewDeco}
use Rattle.decoration_rules.specs.Marks.{has_id, is_live, HasDistinctIds, in_order, put_in_order}
use Rattle.decoration_rules.specs.Decorations.{new_mark, new_marks}
use Rattle.decoration_rules.proofs.OrderLemmas.{has-All, list_any-none}
use Rattle.decoration_rules.proofs.MarkLists.{HaveSame-in_order, is_live-same, distinct_append, in_order-append}

-- the default of a read past the end
abbrev pub any_new : NewDeco
any_new = record { span = record { start = 0; end = 0 }; stick = 0; collapse = false }

-- each id is below the number
abbrev pub Below : ℕ → List Mark → Type 0
Below n marks = All (λ (mark : Mark). mark.id < n) marks

pub fresh-from_below : (n : ℕ) (marks : List Mark) → Below n marks → is_live marks n ≡ false
fresh-from_below n marks used =
    list_any-none (has_id n) marks (λ q has. ne_eqb q.id n (λ same. absurd (omega (arith, same, has-All (λ (mark : Mark). mark.id < n) marks q used has))))

pub record AreAdded (marks : List Mark) (n : ℕ) : Type 0 where
  pub distinct : HasDistinctIds marks
  pub used : Below n marks

pub added : (owner first : ℕ) (add : List NewDeco) (marks : List Mark) → AreAdded marks first → AreAdded (marks ++ new_marks owner first add) (first + length add)
added owner first [] marks before =
    subst (λ (ms : List Mark). AreAdded ms (first + 0)) (sym (append-nil marks)) (subst (AreAdded marks) (omega arith) before)
added owner first (new ∷ more) marks before =
    let one : AreAdded (marks ++ new_mark owner first new ∷ []) (first + 1) = record {
      distinct = distinct_append marks (new_mark owner first new) (fresh-from_below first marks before.used) before.distinct;
      used = All-push (λ (mark : Mark). mark.id < first + 1) marks (new_mark owner first new)
          (All-weaker (λ (mark : Mark). mark.id < first) (λ (mark : Mark). mark.id < first + 1) (λ mark lower. omega (arith, lower)) marks before.used) (omega arith);
    } in
    subst (λ (ms : List Mark). AreAdded ms (first + suc (length more))) (append_assoc marks (new_mark owner first new ∷ []) (new_marks owner (first + 1) more))
    (subst (AreAdded ((marks ++ new_mark owner first new ∷ []) ++ new_marks owner (first + 1) more)) (omega arith)
    (added owner (first + 1) more (marks ++ new_mark owner first new ∷ []) one))

new_marks-append : (owner first : ℕ) (add : List NewDeco) (new : NewDeco) → new_marks owner first (add ++ new ∷ []) ≡ new_marks owner first add ++ new_mark owner (first + length add) new ∷ []
new_marks-append owner first [] new = ap (λ n. new_mark owner n new ∷ []) (omega arith)
new_marks-append owner first (x ∷ add) new =
    ap (λ ms. new_mark owner first x ∷ ms) (new_marks-append owner (first + 1) add new
    ∙ ap (λ n. new_marks owner (first + 1) add ++ new_mark owner n new ∷ []) (omega arith))

pub length-new_marks : (owner first : ℕ) (add : List NewDeco) → length (new_marks owner first add) ≡ length add
length-new_marks owner first [] = refl
length-new_marks owner first (new ∷ more) = ap suc (length-new_marks owner (first + 1) more)

-- the decorations after the first `i` new ones are inserted
abbrev pub so_far : ℕ → ℕ → List NewDeco → List Mark → ℕ → List Mark
so_far owner first add marks i = marks ++ new_marks owner first (take i add)

so_far-added : (owner first : ℕ) (add : List NewDeco) (marks : List Mark) (i : ℕ) → i ≤ length add → AreAdded marks first → AreAdded (so_far owner first add marks i) (first + i)
so_far-added owner first add marks i i_in before =
    subst (λ n. AreAdded (so_far owner first add marks i) (first + n)) (length-take-le i add i_in) (added owner first (take i add) marks before)

pub so_far-fresh : (owner first : ℕ) (add : List NewDeco) (marks : List Mark) (i : ℕ) → i ≤ length add → AreAdded marks first → is_live (in_order (so_far owner first add marks i)) (first + i) ≡ false
so_far-fresh owner first add marks i i_in before =
    is_live-same (so_far owner first add marks i) (in_order (so_far owner first add marks i)) (first + i) (HaveSame-in_order (so_far owner first add marks i))
    (fresh-from_below (first + i) (so_far owner first add marks i) (so_far-added owner first add marks i i_in before).used)

-- the next one
pub so_far-more : (owner first : ℕ) (add : List NewDeco) (marks : List Mark) (i : ℕ) (d : NewDeco) → i < length add → AreAdded marks first
    → put_in_order (new_mark owner (first + i) (get_or add i d)) (in_order (so_far owner first add marks i)) ≡ in_order (so_far owner first add marks (i + 1))
so_far-more owner first add marks i d i_in before =
    let here : AreAdded (so_far owner first add marks i) (first + i) = so_far-added owner first add marks i (omega arith) before in
    sym (in_order-append (so_far owner first add marks i) (new_mark owner (first + i) (get_or add i d)) here.distinct (fresh-from_below (first + i) (so_far owner first add marks i) here.used))
    ∙ ap in_order (append_assoc marks (new_marks owner first (take i add)) (new_mark owner (first + i) (get_or add i d) ∷ []))
    ∙ ap (λ n. in_order (marks ++ (new_marks owner first (take i add) ++ new_mark owner (first + n) (get_or add i d) ∷ []))) (sym (length-take-le i add (omega arith)))
    ∙ ap (λ ms. in_order (marks ++ ms)) (sym (new_marks-append owner first (take i add) (get_or add i d)))
    ∙ ap (λ news. in_order (marks ++ new_marks owner first news)) (sym (take_more add i d i_in))
