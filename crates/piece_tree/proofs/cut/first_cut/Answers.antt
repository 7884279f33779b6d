use Rattle.std.proofs.Common.{◌≡◌, ◌+◌, ◌-◌, false, Some, ◌∷◌, [], MatchOption, refl, ap, sym, subst, ◌∙◌, arith}
use Rattle.std.specs.List.{All}
use Rattle.std.specs.Option.{ForSome}
use Rattle.piece_tree.specs.Pieces.{StandsAt, HasUnit, IsPieceOf, entry_found, pieces_of, unit_count, sum_of, goes_on_from, span_of, piece_of}
use Rattle.piece_tree.specs.Runs.{entry_at, entries_of, pieces_in}
use Rattle.piece_tree.specs.Splicing.{IsCut, IsJoint}
use Rattle.piece_tree.proofs.Entries.{pieces_entries}
use Rattle.piece_tree.proofs.Cuts.{front_none}
use Rattle.piece_tree.proofs.Sums.{sum_counts, sum_without}
use Rattle.piece_tree.proofs.Neighbours.{last_none, last_there}
use Rattle.piece_tree.proofs.Joints.{all_here, before_place, joint_ends, sum_up_to, units_up_to, cut_whole, cut_inside, cut_before}
use Rattle.piece_tree.proofs.cut.first_cut.Goals as goal

pub returns-in_err-last_piece : goal.returns-in_err-last_piece
returns-in_err-last_piece c =
    let runs = c.args.runs.now.runs in let entries = entries_of runs in
    let none = sym (pieces_entries runs) ∙ ap pieces_of (last_none entries (sym c.in_err-last_piece.was ∙ c.last_piece.ensures)) in
    subst (λ r. MatchOption r (pieces_in runs ≡ []) (IsCut c.args.chunks.now.buffers c.args.start (c.args.start + c.args.gone) (span_of c.args.piece) entries)) (sym c.from_residual.ensures) none

pub cut_behind-requires-clause-units : goal.cut_behind-requires-clause-units
cut_behind-requires-clause-units c =
    let runs = c.args.runs.now.runs in let (id, x) = c.in_ok-last_piece.field-0 in
    let (ws, is) = last_there (entries_of runs) id x (sym c.in_ok-last_piece.was ∙ c.last_piece.ensures) in
    (sum_counts (pieces_of ws) x c.sum.result (c.sum.ensures.sum ∙ ap sum_of (sym (pieces_entries runs)) ∙ sum_up_to (entries_of runs) ws id x is)).0

pub cut_behind-requires-clause-breaks : goal.cut_behind-requires-clause-breaks
cut_behind-requires-clause-breaks c =
    let runs = c.args.runs.now.runs in let (id, x) = c.in_ok-last_piece.field-0 in
    let (ws, is) = last_there (entries_of runs) id x (sym c.in_ok-last_piece.was ∙ c.last_piece.ensures) in
    (sum_counts (pieces_of ws) x c.sum.result (c.sum.ensures.sum ∙ ap sum_of (sym (pieces_entries runs)) ∙ sum_up_to (entries_of runs) ws id x is)).1

pub returns-in_default : goal.returns-in_default
returns-in_default c =
    let b = c.args.chunks.now.buffers in let runs = c.args.runs.now.runs in let entries = entries_of runs in let (id, x) = c.in_ok-last_piece.field-0 in let sum = c.sum.result in
    let (ws, is) = last_there entries id x (sym c.in_ok-last_piece.was ∙ c.last_piece.ensures) in
    let end : c.args.start ≡ unit_count (pieces_of entries) = subst (λ a. StandsAt entries a c.args.start) c.in_default.is c.requires.place in
    let all = subst (All (IsPieceOf b)) (sym (pieces_entries runs)) c.requires.pieces in
    cut_whole b entries ws id x [] c.args.start c.args.gone (span_of c.args.piece) (record { units = sum.units - x.span.units; breaks = sum.breaks - x.breaks }) is
    (sum_without (pieces_of ws) x sum (c.sum.ensures.sum ∙ ap sum_of (sym (pieces_entries runs)) ∙ sum_up_to entries ws id x is)) c.cut_behind.result
    (end ∙ units_up_to entries ws id x is) refl (all_here (IsPieceOf b) entries ws id x [] is all) c.cut_behind.ensures

pub part-requires-clause-inside : goal.part-requires-clause-inside
part-requires-clause-inside c =
    let b = c.args.chunks.now.buffers in let runs = c.args.runs.now.runs in let entries = entries_of runs in let found = c.in-Some.found in
    let has : HasUnit entries found c.args.start = subst (λ a. StandsAt entries a c.args.start) c.in-Some.is c.requires.place in
    let at = has.piece in
    let all = subst (All (IsPieceOf b)) (sym (pieces_entries runs)) c.requires.pieces in
    let is = all_here (IsPieceOf b) entries at.earlier found.id (entry_found found).piece at.later at.place all in is.inside

pub returns-then-own-gt0 : goal.returns-then-own-gt0
returns-then-own-gt0 c =
    let b = c.args.chunks.now.buffers in let entries = entries_of c.args.runs.now.runs in let found = c.in-Some.found in let own = c.args.start - found.before.units in
    let has : HasUnit entries found c.args.start = subst (λ a. StandsAt entries a c.args.start) c.in-Some.is c.requires.place in
    let at = has.piece in let start = has.start in let end = has.end in let count = ap (λ s. s.units) at.before in
    cut_inside b entries at.earlier found.id (entry_found found).piece at.later c.args.start c.args.gone (span_of c.args.piece) found.before at.place at.before own c.piece_of.result
    (omega (arith, count, start)) c.if-own-gt0.true (omega (arith, start, end)) (c.piece_of.ensures.piece ∙ ap (piece_of b) c.part.ensures.part) c.piece_of.ensures.counted

pub cut_behind-requires-in-Some-joint-clause-units : goal.cut_behind-requires-in-Some-joint-clause-units
cut_behind-requires-in-Some-joint-clause-units c =
    let entries = entries_of c.args.runs.now.runs in let found = c.in-Some.found in let before = c.in-Some-joint.before in
    let has : HasUnit entries found c.args.start = subst (λ a. StandsAt entries a c.args.start) c.in-Some.is c.requires.place in
    let at = has.piece in
    let (ws, last) = joint_ends at.earlier (span_of c.args.piece) c.joint.result before c.in-Some-joint.is (c.joint.ensures at.earlier at.later (entry_found found).piece at.place) in
    (sum_counts (pieces_of ws) before.1 found.before (at.before ∙ sum_up_to at.earlier ws before.0 before.1 last)).0

pub cut_behind-requires-in-Some-joint-clause-breaks : goal.cut_behind-requires-in-Some-joint-clause-breaks
cut_behind-requires-in-Some-joint-clause-breaks c =
    let entries = entries_of c.args.runs.now.runs in let found = c.in-Some.found in let before = c.in-Some-joint.before in
    let has : HasUnit entries found c.args.start = subst (λ a. StandsAt entries a c.args.start) c.in-Some.is c.requires.place in
    let at = has.piece in
    let (ws, last) = joint_ends at.earlier (span_of c.args.piece) c.joint.result before c.in-Some-joint.is (c.joint.ensures at.earlier at.later (entry_found found).piece at.place) in
    (sum_counts (pieces_of ws) before.1 found.before (at.before ∙ sum_up_to at.earlier ws before.0 before.1 last)).1

pub returns-in-Some-joint : goal.returns-in-Some-joint
returns-in-Some-joint c =
    let b = c.args.chunks.now.buffers in let runs = c.args.runs.now.runs in let entries = entries_of runs in let found = c.in-Some.found in let before = c.in-Some-joint.before in
    let x = (entry_found found).piece in let y = before.1 in
    let has : HasUnit entries found c.args.start = subst (λ a. StandsAt entries a c.args.start) c.in-Some.is c.requires.place in
    let at = has.piece in let start = has.start in let end = has.end in let count = ap (λ s. s.units) at.before in
    let (ws, last) = joint_ends at.earlier (span_of c.args.piece) c.joint.result before c.in-Some-joint.is (c.joint.ensures at.earlier at.later x at.place) in
    let behind = entry_at found.id x ∷ at.later in
    let place = before_place entries at.earlier ws behind before.0 y at.place last in
    let all = subst (All (IsPieceOf b)) (sym (pieces_entries runs)) c.requires.pieces in
    cut_whole b entries ws before.0 y behind c.args.start c.args.gone (span_of c.args.piece) (record { units = found.before.units - y.span.units; breaks = found.before.breaks - y.breaks }) place
    (sum_without (pieces_of ws) y found.before (at.before ∙ sum_up_to at.earlier ws before.0 y last)) c.cut_behind-in-Some-joint.result
    (omega (arith, count, start, c.if-own-gt0.false, units_up_to at.earlier ws before.0 y last)) (front_none b x (pieces_of at.later) (omega (arith, end, c.if-own-gt0.false)))
    (all_here (IsPieceOf b) entries ws before.0 y behind place all) c.cut_behind-in-Some-joint.ensures

pub returns : goal.returns
returns c =
    let b = c.args.chunks.now.buffers in let entries = entries_of c.args.runs.now.runs in let found = c.in-Some.found in let x = (entry_found found).piece in
    let has : HasUnit entries found c.args.start = subst (λ a. StandsAt entries a c.args.start) c.in-Some.is c.requires.place in
    let at = has.piece in let start = has.start in let end = has.end in let count = ap (λ s. s.units) at.before in
    let none : ForSome (span_of c.args.piece) (λ s. goes_on_from (pieces_of at.earlier) s ≡ false) =
    λ s is. subst (IsJoint at.earlier (Some s)) c.in_default-joint.is (subst (λ o. IsJoint at.earlier o c.joint.result) is (c.joint.ensures at.earlier at.later x at.place)) in
    cut_before b entries at.earlier found.id x at.later c.args.start c.args.gone (span_of c.args.piece) found.before at.place at.before
    (omega (arith, count, start, c.if-own-gt0.false)) (omega (arith, end, c.if-own-gt0.false)) none
