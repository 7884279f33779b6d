-- Edits that are collected one by one, with their texts one after another.
use Rattle.std.proofs.Common.{◌≡◌, ℕ, ◌+◌, ◌≤◌, List, [], ◌∷◌, ◌++◌, length, take, drop, Some, ap, ◌∙◌, arith}
use Rattle.std.proofs.lemmas.List.{take_all, take-append-le, drop-append-le, length-drop}
use Rattle.text_rules.specs.declared.Op.{Op}
use Rattle.textmodel_c.specs.declared.telling.Change.{Change}
use Rattle.textmodel_c.specs.Tellings.{TellingState, edit_of, edits_in, units_in, telling_of}

-- one more behind them

pub units_in-more : (changes : List Change) (more : Change) → units_in (changes ++ more ∷ []) ≡ units_in changes + more.units
units_in-more [] more = omega arith
units_in-more (change ∷ changes) more = omega (arith, units_in-more changes more)

pub edits_in-more : (changes : List Change) (texts : List ℕ) (more : Change) (text : List ℕ) → units_in changes ≡ length texts → more.units ≡ length text
    → edits_in (changes ++ more ∷ []) (texts ++ text) ≡ edits_in changes texts ++ edit_of more text ∷ []
edits_in-more [] [] more text whole own = ap (λ (x : List ℕ). edit_of more x ∷ []) (take_all more.units text (omega (arith, own)))
edits_in-more [] (u ∷ texts) more text whole own = absurd (omega (arith, whole))
edits_in-more (change ∷ changes) texts more text whole own =
    let within : change.units ≤ length texts = omega (arith, whole) in
    let rest : units_in changes ≡ length (drop change.units texts) = omega (arith, whole, length-drop change.units texts) in
    ap (λ (x : List ℕ). edit_of change x ∷ edits_in (changes ++ more ∷ []) (drop change.units (texts ++ text))) (take-append-le change.units texts text within)
    ∙ ap (λ (x : List ℕ). edit_of change (take change.units texts) ∷ edits_in (changes ++ more ∷ []) x) (drop-append-le change.units texts text within)
    ∙ ap (λ (ops : List Op). edit_of change (take change.units texts) ∷ ops) (edits_in-more changes (drop change.units texts) more text rest own)

-- the first of them is told

pub telling_is : (doc version now : ℕ) (changes : List Change) (texts : List ℕ) (ops : List Op) → now ≡ version → edits_in changes texts ≡ ops
    → (length changes ≡ 0 → ⊥) → Some (record { doc = doc; version = now; edits = edits_in changes texts }) ≡ telling_of doc version ops
telling_is doc version now [] texts ops same is some = absurd (some (omega arith))
telling_is doc version now (change ∷ changes) texts ops same is some =
    ap (λ (n : ℕ). Some (record { doc = doc; version = n; edits = edits_in (change ∷ changes) texts })) same ∙ ap (telling_of doc version) is
