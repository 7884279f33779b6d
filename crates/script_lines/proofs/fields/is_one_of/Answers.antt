use Rattle.std.proofs.Common.{[], List, ℕ, Bor, map, sym, ◌∙◌}
use Rattle.std.specs.Str.{bytes_eq}
use Rattle.std.proofs.Math.ListN.{get_or-map, length-map}
use Rattle.std.proofs.lemmas.List.Folds.{list_any_at}
use Rattle.script_lines.proofs.fields.is_one_of.Goals as goal

pub returns-then-eq : goal.returns-then-eq
returns-then-eq c =
    let nothing : Bor (List ℕ) = record { ref_ptr = (0, 0); now = [] } in
    sym (list_any_at (bytes_eq c.args.key.now) (map (λ name. name.now) c.args.names.now) c.loop-name.name-index []
    (rw length-map c.loop-name-test.true)
    (rw (get_or-map (λ name. name.now) c.args.names.now c.loop-name.name-index nothing) (sym c.eq.ensures ∙ c.if-eq.true)))
