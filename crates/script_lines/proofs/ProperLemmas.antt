-- Properties of the requests parsed from lines.
use Rattle.std.proofs.Common.{◌≡◌, ℕ, zero, suc, ◌<◌, ◌≤◌, Bool, true, false, if◌then◌else◌, List, [], ◌∷◌, length, Option, Some, None, IfSome, codes, subst, arith}
use Rattle.std.specs.Bool.{⊤}
use Rattle.std.specs.List.{All}
use Rattle.std.specs.Option.{option_and_then, option_map}
use Rattle.std.specs.Str.{is_utf8, bytes_eq}
use Rattle.std.proofs.lemmas.List.Elements.{All-nil, All-cons}
use Rattle.serde_json.specs.Data.{Data, Items, no_items, item}
use Rattle.serde_json.specs.Find.{get, as_array}
use Rattle.serde_json.specs.Read.{read}
use Rattle.script_lines.specs.declared.op.LineOp.{LineOp}
use Rattle.script_lines.specs.declared.request.DocEdit.{DocEdit}
use Rattle.script_lines.specs.declared.request.Request.{Request}
use Rattle.script_lines.specs.declared.request.Request.TheVariants.{One, Joint}
use Rattle.script_lines.specs.Commands.{command_in}
use Rattle.script_lines.specs.EditCommands.{op_in, some_ops_in, some_ops_at}
use Rattle.script_lines.specs.Fields.{has_only, all_of, number_at, string_at}
use Rattle.script_lines.specs.Requests.{doc_in, one_in, doc_edit_of, doc_edit_in, joint_edits_in, joint_in, request_in, request_of}
use Rattle.script_lines.specs.Proper.{HasOps, AreBatches, IsProper}

module _ {A B : Type 0} (Q : A → Type 0) (P : B → Type 0) where
  by_then : (f : A → Option B) (o : Option A) → IfSome o Q → ((a : A) → Q a → IfSome (f a) P) → IfSome (option_and_then f o) P
  by_then f None q each = tt
  by_then f (Some a) q each = each a q

  by_map : (f : A → B) (o : Option A) → IfSome o Q → ((a : A) → Q a → P (f a)) → IfSome (option_map f o) P
  by_map f None q each = tt
  by_map f (Some a) q each = each a q

by_if : {A : Type 0} (P : A → Type 0) (is : Bool) (o : Option A) → IfSome o P → IfSome (if is then o else None) P
by_if P true o given = given
by_if P false o given = tt

abbrev Any : {A : Type 0} → A → Type 0
Any x = ⊤

any : {A : Type 0} (o : Option A) → IfSome o Any
any None = tt
any (Some x) = tt

module _ {X : Type 0} (reads : Data → Option X) (Q : X → Type 0) (each : (d : Data) → IfSome (reads d) Q) where
  -- at least `least` items, and Q holds for each
  record AreSome (least : ℕ) (xs : List X) : Type 0 where
    pub many : least ≤ length xs
    pub all : All Q xs

  one_more : (least : ℕ) (d : Data) (ds : Items) → IfSome (all_of reads ds) (AreSome least) → IfSome (all_of reads (item d ds)) (AreSome (suc least))
  one_more least d ds rest =
      by_then Q (AreSome (suc least)) _ (reads d) (each d)
      (λ x q. by_then (AreSome least) (AreSome (suc least)) _ (all_of reads ds) rest
      (λ xs some. record { many = omega (arith, some.many); all = All-cons Q x xs q some.all }))

  fewer : (xs : List X) (least : ℕ) → AreSome (suc least) xs → AreSome least xs
  fewer xs least some = record { many = omega (arith, some.many); all = some.all }

  none_or_more : (ds : Items) → IfSome (all_of reads ds) (AreSome 0)
  none_or_more no_items = record { many = omega arith; all = All-nil Q }
  none_or_more (item d ds) = weaker (all_of reads (item d ds)) (one_more 0 d ds (none_or_more ds))
    where
      weaker : (o : Option (List X)) → IfSome o (AreSome 1) → IfSome o (AreSome 0)
      weaker None some = tt
      weaker (Some xs) some = fewer xs 0 some

has_ops : (d : Data) → IfSome (doc_edit_in d) HasOps
has_ops d =
    by_if HasOps (has_only (codes "doc" ∷ codes "ops" ∷ []) d) (doc_edit_of d)
    (by_then Any HasOps _ (number_at (codes "doc") d) (any _)
    (λ n a. by_then (λ ops. 0 < length ops) HasOps _ (some_ops_at (codes "ops") d) (some_ops d) (λ ops some. some)))
  where
    some_in : (ds : Items) → IfSome (some_ops_in ds) (λ ops. 0 < length ops)
    some_in no_items = tt
    some_in (item d ds) = counted (all_of op_in (item d ds)) (one_more op_in Any (λ d. any (op_in d)) 0 d ds (none_or_more op_in Any (λ d. any (op_in d)) ds))
      where
        counted : (o : Option (List LineOp)) → IfSome o (AreSome op_in Any (λ d. any (op_in d)) 1) → IfSome o (λ ops. 0 < length ops)
        counted None some = tt
        counted (Some ops) some = omega (arith, some.many)

    some_ops : (d : Data) → IfSome (some_ops_at (codes "ops") d) (λ ops. 0 < length ops)
    some_ops d = by_then Any (λ ops. 0 < length ops) some_ops_in (option_and_then as_array (get (codes "ops") d)) (any _) (λ ds a. some_in ds)

are_batches : (ds : Items) → IfSome (joint_edits_in ds) AreBatches
are_batches no_items = tt
are_batches (item d no_items) = tt
are_batches (item d (item e ds)) =
    counted (all_of doc_edit_in (item d (item e ds)))
    (one_more doc_edit_in HasOps has_ops 1 d (item e ds) (one_more doc_edit_in HasOps has_ops 0 e ds (none_or_more doc_edit_in HasOps has_ops ds)))
  where
    counted : (o : Option (List DocEdit)) → IfSome o (AreSome doc_edit_in HasOps has_ops 2) → IfSome o AreBatches
    counted None some = tt
    counted (Some edits) some = record { several = some.many; some = some.all }

is_proper : (d : Data) → IfSome (request_in d) IsProper
is_proper d = by_then Any IsProper _ (string_at (codes "cmd") d) (any _) (λ name a. named (bytes_eq name (codes "joint")))
  where
    joined : IfSome (joint_in d) IsProper
    joined =
        by_if IsProper (has_only (codes "cmd" ∷ codes "edits" ∷ []) d) _
        (by_map AreBatches IsProper Joint _
        (by_then Any AreBatches joint_edits_in (option_and_then as_array (get (codes "edits") d)) (any _) (λ ds a. are_batches ds)) (λ edits are. are))

    alone : IfSome (one_in d) IsProper
    alone =
        by_then Any IsProper _ (doc_in d) (any _)
        (λ n a. by_then Any IsProper _ (command_in d) (any _) (λ c b. tt))

    named : (is_joint : Bool) → IfSome (if is_joint then joint_in d else one_in d) IsProper
    named true = joined
    named false = alone

-- every request parsed from a line is proper
pub spelled : (line : List ℕ) (request : Request) → request_of line ≡ Some request → IsProper request
unfolding request_of
spelled line request is =
    subst (λ o. IfSome o IsProper) is
    (by_if IsProper (is_utf8 line) (option_and_then request_in (read line)) (by_then Any IsProper request_in (read line) (any _) (λ d a. is_proper d)))
