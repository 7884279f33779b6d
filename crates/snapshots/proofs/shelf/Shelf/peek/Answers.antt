use Rattle.std.proofs.Common.{rules, ◌≡◌, ◌++◌, refl, ◌∙◌, ap}
use Rattle.snapshots.specs.Shown.{Lies}
use Rattle.snapshots.specs.Spans.{spelled, spells}
use Rattle.snapshot_rules.specs.Snapshots.{front}
use Rattle.snapshots.proofs.Flat.{peeked-unknown, peeked-range, peeked-front, All-found}
use Rattle.snapshots.proofs.shelf.Shelf.peek.Goals as goal

pub returns-in_default : goal.returns-in_default
returns-in_default c = (refl, peeked-unknown c.args.chunks.now.buffers c.args.self.now c.args.id c.args.count (search rules))

pub returns-then-count-lt-LEAST_READ : goal.returns-then-count-lt-LEAST_READ
returns-then-count-lt-LEAST_READ c =
    (refl, peeked-range c.args.chunks.now.buffers c.args.self.now c.args.id c.args.count c.in-Some.kept.now (search rules) c.if-count-lt-LEAST_READ.true)

pub push_front-requires : goal.push_front-requires
push_front-requires c =
    rw c.rest.ensures
    (All-found (Lies c.args.chunks.now.buffers) (spells c.args.id) c.in-Some.kept.now c.args.self.now.snapshots c.requires (search rules))

pub returns : goal.returns
returns c =
    let b = c.args.chunks.now.buffers in
    let taken : c.push_front.new.out.items ≡ c.args.out.now.items ++ front c.args.count (spelled b c.rest.result.now) = search rules in (
      front c.args.count (spelled b c.in-Some.kept.now.spans),
      peeked-front b c.args.self.now c.args.id c.args.count c.in-Some.kept.now (search rules) c.if-count-lt-LEAST_READ.false,
      taken ∙ ap (λ ss. c.args.out.now.items ++ front c.args.count (spelled b ss)) c.rest.ensures,
    )
