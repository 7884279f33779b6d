-- The flat shelf of a shelf is unchanged when its buffers grow.
use Rattle.std.proofs.Common.{◌≡◌, ℕ, List, [], ◌∷◌, ◌++◌, map, refl, ap, ap₂, arith}
use Rattle.std.specs.List.{All}
use Rattle.std.proofs.lemmas.List.Elements.{All-head, All-tail, All-weaker}
use Rattle.chunk_buffers.specs.declared.span.ChunkSpan.{ChunkSpan}
use Rattle.chunk_buffers.specs.Chunks.{LiesIn, Extends}
use Rattle.chunk_buffers.proofs.Spans.{LiesIn-extended, units_at-extended}
use Rattle.snapshots.specs.Spans.{Spelled, IsSmall, spelled, snapshot_of}
use Rattle.snapshots.specs.Shown.{Shown, shown, LieIn, Lies}

module _ (old new : List (List ℕ)) (grown : Extends old new) where
  spelled-extended : (spans : List ChunkSpan) → All (LiesIn old) spans → spelled new spans ≡ spelled old spans
  spelled-extended [] all = refl
  spelled-extended (span ∷ spans) all =
      ap₂ ◌++◌ (units_at-extended old new span grown (All-head (LiesIn old) span spans all)) (spelled-extended spans (All-tail (LiesIn old) span spans all))

  shown-extended-each : (xs : List Spelled) → All (Lies old) xs → map (snapshot_of new) xs ≡ map (snapshot_of old) xs
  shown-extended-each [] all = refl
  shown-extended-each (x ∷ xs) all =
      ap₂ ◌∷◌ (ap (λ u. record { id = x.id; rest = u }) (spelled-extended x.spans (All-head (Lies old) x xs all)))
      (shown-extended-each xs (All-tail (Lies old) x xs all))

  pub shown-extended : (shelf : Shown) → LieIn old shelf → shown new shelf ≡ shown old shelf
  shown-extended shelf lie = ap (λ xs. record { snapshots = xs; next_id = shelf.next_id }) (shown-extended-each shelf.snapshots lie)

  pub LieIn-extended : (shelf : Shown) → LieIn old shelf → LieIn new shelf
  LieIn-extended shelf lie =
      All-weaker (Lies old) (Lies new)
      (λ s each. All-weaker (LiesIn old) (LiesIn new) (λ span lies. LiesIn-extended old new span grown lies) s.spans each) shelf.snapshots lie

-- spans that lie in buffers may be taken
pub IsSmall-LiesIn : (buffers : List (List ℕ)) (spans : List ChunkSpan) → All (LiesIn buffers) spans → All IsSmall spans
IsSmall-LiesIn buffers spans all = All-weaker (LiesIn buffers) IsSmall (λ span lies. record { end = omega (arith, lies.fits) }) spans all
