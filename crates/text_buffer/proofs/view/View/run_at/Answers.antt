use Rattle.std.proofs.Common.{◌≡◌, ℕ, ◌-◌, List, length, take, drop, ap, sym, subst, ◌∙◌, arith}
use Rattle.std.proofs.lemmas.List.{length-drop, take_all}
use Rattle.chunk_buffers.specs.Chunks.{units_at}
use Rattle.text_buffer.specs.Views.{units_in}
use Rattle.text_buffer.proofs.Found.{found_run}
use Rattle.text_buffer.proofs.view.View.run_at.Goals as goal

pub returns-clause-front : goal.returns-clause-front
returns-clause-front c =
    let view = c.args.self.now in
    let units = c.units.result.now in
    let has = c.piece_at-found.ensures in
    let own : ℕ = c.args.offset - c.piece_at-found.result.before.units in
    let run =
    take_all (length units - own) (drop own units) (omega (arith, length-drop own units))
    ∙ ap (drop own) (c.units.ensures ∙ ap (units_at view.chunks.now.buffers) c.span_in.ensures.same) in
    subst (λ (u : List ℕ). u ≡ take (length u) (drop c.args.offset (units_in view))) (sym run)
    (found_run view.chunks.now.buffers view.pieces.now.entries c.piece_at-found.result has.piece c.requires.view.text.pieces c.args.offset has.start has.end)
