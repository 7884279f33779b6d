-- The decorations that queries answer lie in the text.
use Rattle.std.proofs.Common.{◌≡◌, ℕ, Bool, true, false, cond, List, [], ◌∷◌, length, filter, Option, Some, None, IfSome, Ok, subst}
use Rattle.std.specs.List.{All, find}
use Rattle.std.specs.Option.{option_map}
use Rattle.std.proofs.lemmas.List.Elements.{All-filter, All-map, All-head, All-tail}
use Rattle.text_lengths.specs.declared.Span.{Span}
use Rattle.decoration_rules.specs.declared.Mark.{Mark}
use Rattle.decoration_rules.specs.declared.Deco.{Deco}
use Rattle.decoration_rules.specs.Marks.{has_id, touches, touching}
use Rattle.decoration_rules.specs.Moves.{IsSpanIn, LieIn}
use Rattle.decoration_rules.specs.Decorations.{deco_of, is_of, decos_in}
use Rattle.text_rules.specs.Edits.{is_bad_span}
use Rattle.document_rules.specs.Document.{FlatState, flat_deco, flat_decos}
use Rattle.model_core.proofs.Kept.{answered}

IfSome-find : {X : Type 0} (P : X → Type 0) (p : X → Bool) (xs : List X) → All P xs → IfSome (find p xs) P
IfSome-find P p [] all = tt
IfSome-find P p (x ∷ xs) all = elim (p x) as (λ b. IfSome (cond b (Some x) (find p xs)) P) [
  | true ↦ All-head P x xs all
  | false ↦ IfSome-find P p xs (All-tail P x xs all)
]

IfSome-mapped : {A B : Type 0} (f : A → B) (P : B → Type 0) (o : Option A) → IfSome o (λ a. P (f a)) → IfSome (option_map f o) P
IfSome-mapped f P None h = tt
IfSome-mapped f P (Some a) h = h

module _ (f : FlatState) (lie : LieIn (length f.units) f.decorations.marks) where
  pub deco_inside : (id : ℕ) → IfSome (flat_deco f id) (λ (deco : Deco). IsSpanIn deco.span (length f.units))
  deco_inside id =
      IfSome-mapped deco_of (λ (deco : Deco). IsSpanIn deco.span (length f.units)) (find (has_id id) f.decorations.marks)
      (IfSome-find (λ (mark : Mark). IsSpanIn mark.span (length f.units)) (has_id id) f.decorations.marks lie)

  pub decos_inside : (span : Span) (owner : Option ℕ) (decos : List Deco) → flat_decos f span owner ≡ Ok decos
      → All (λ (deco : Deco). IsSpanIn deco.span (length f.units)) decos
  decos_inside span owner decos is =
      let P : Mark → Type 0 = λ mark. IsSpanIn mark.span (length f.units) in
      subst (All (λ (deco : Deco). IsSpanIn deco.span (length f.units))) (answered (is_bad_span f.kind f.units span) (decos_in f.decorations span owner) decos is)
      (All-map (λ (deco : Deco). IsSpanIn deco.span (length f.units)) deco_of (filter (is_of owner) (touching span f.decorations.marks))
      (All-filter (is_of owner) P (touching span f.decorations.marks) (All-filter (touches span) P f.decorations.marks lie)))
