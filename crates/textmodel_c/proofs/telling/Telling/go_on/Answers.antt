use Rattle.std.proofs.Common.{◌≡◌, ℕ, suc, List, [], ◌∷◌, length, drop, refl, sym, ap, ◌∙◌, arith, length-drop}
use Rattle.std.proofs.lemmas.Bool.{lt-ltb, le-ltb}
use Rattle.textmodel_c.specs.declared.telling.Change.{Change}
use Rattle.textmodel_c.specs.Tellings.{TellingState, edits_in}
use Rattle.textmodel_c.proofs.telling.Telling.go_on.Goals as goal

length-edits_in : (changes : List Change) (texts : List ℕ) → length (edits_in changes texts) ≡ length changes
length-edits_in [] texts = refl
length-edits_in (c ∷ changes) texts = ap suc (length-edits_in changes (drop c.units texts))

pub returns-then-self-len-clause-some : goal.returns-then-self-len-clause-some
returns-then-self-len-clause-some c =
    let len : length c.args.self.now.edits ≡ length (drop c.self.inside.at c.self.inside.edits.items) =
    ap (λ (t : TellingState). length t.edits) (sym c.self.view_is)
    ∙ length-edits_in (drop c.self.inside.at c.self.inside.edits.items) (drop c.self.inside.from c.self.inside.texts.items) in
    sym (le-ltb 1 (length c.args.self.now.edits) (omega (arith, len, length-drop c.self.inside.at c.self.inside.edits.items)))

pub returns-clause-some : goal.returns-clause-some
returns-clause-some c =
    let len : length c.args.self.now.edits ≡ length (drop c.self.inside.at c.self.inside.edits.items) =
    ap (λ (t : TellingState). length t.edits) (sym c.self.view_is)
    ∙ length-edits_in (drop c.self.inside.at c.self.inside.edits.items) (drop c.self.inside.from c.self.inside.texts.items) in
    sym (lt-ltb 1 (length c.args.self.now.edits) (omega (arith, len, length-drop c.self.inside.at c.self.inside.edits.items)))
