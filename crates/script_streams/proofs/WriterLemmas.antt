-- A writer before and after a write.
use Rattle.std.proofs.Common.{◌≡◌, ℕ, List, [], ◌++◌, Option, Some, None, Result, Ok, Err, take, ◌∙◌, ap, refl, sym, append-nil}
use Rattle.std.proofs.KnownBytes.{Keeps-trans}
use Rattle.std.specs.Prelude.{is_some}
use Rattle.std.specs.Io.KnownBytes.{Keeps, Appends, WriteAppends}
use Rattle.script_streams.specs.Streams.{Took, Wrote}
use Rattle.script_streams.specs.Writer.{TellsAlwaysOrNever}

Appends-after_Keeps : (a b c : Option (List ℕ)) (bytes : List ℕ) → Keeps a b → Appends b c bytes → Appends a c bytes
Appends-after_Keeps None b c bytes kept appended = tt
Appends-after_Keeps (Some x) None c bytes kept appended = absurd kept
Appends-after_Keeps (Some x) (Some y) None bytes kept appended = absurd appended
Appends-after_Keeps (Some x) (Some y) (Some z) bytes kept appended = appended ∙ ap (λ l. l ++ bytes) kept

-- a write that comes after some that did nothing
pub WriteAppends-after_Keeps : {E : Type 0} (a b c : Option (List ℕ)) (answer : Result ℕ E) (piece : List ℕ) →
    Keeps a b → WriteAppends b c answer piece → WriteAppends a c answer piece
WriteAppends-after_Keeps a b c (Ok n) piece kept appended = Appends-after_Keeps a b c (take n piece) kept appended
WriteAppends-after_Keeps a b c (Err e) piece kept kept_then = Keeps-trans a b c kept kept_then

pub Appends-from_Keeps : (a b : Option (List ℕ)) → Keeps a b → Appends a b []
Appends-from_Keeps None b kept = tt
Appends-from_Keeps (Some x) None kept = absurd kept
Appends-from_Keeps (Some x) (Some y) kept = kept ∙ sym (append-nil x)

-- a writer whose contents are known at all times or never takes bytes as a sink does
pub Took-from_Appends : (a b : Option (List ℕ)) (bytes : List ℕ) → is_some a ≡ is_some b → Appends a b bytes → Took a b bytes
Took-from_Appends None None bytes same appended = tt
Took-from_Appends None (Some y) bytes same appended = cc
Took-from_Appends (Some x) None bytes same appended = absurd appended
Took-from_Appends (Some x) (Some y) bytes same appended = appended

told_after : (a b : Option (List ℕ)) (before bytes : List ℕ) → is_some a ≡ is_some b → a ≡ Some before → Took a b bytes → b ≡ Some (before ++ bytes)
told_after None b before bytes same is took = cc
told_after (Some x) None before bytes same is took = cc
told_after (Some x) (Some y) before bytes same is took = cc

-- a sink over such a writer keeps its known bytes known
pub Wrote-over_writer : {W : Type 0} (contents : W → Option (List ℕ)) (old new : W) (faults faults' : ℕ) (bytes : List ℕ)
    → TellsAlwaysOrNever contents → Took (contents old) (contents new) bytes
    → Wrote (record { taken = contents old; room = 0; faults = faults; tally = None }) (record { taken = contents new; room = 0; faults = faults'; tally = None }) bytes
Wrote-over_writer contents old new faults faults' bytes always took = record {
  took = took;
  told = λ before is fits. told_after (contents old) (contents new) before bytes (always old new) is took;
  room = refl;
  tally = λ before is whole. absurd (cc is);
}
