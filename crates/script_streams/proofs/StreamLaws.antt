-- The bytes read from a source and written to a sink by consecutive calls.
use Rattle.std.proofs.Common.{◌≡◌, ℕ, ◌+◌, ◌^◌, ◌%◌, ◌<◌, List, [], ◌++◌, sum, take, drop, length, length-append, Option, Some, None, append_assoc, refl, ap, sym, ◌∙◌, subst, arith}
use Rattle.std.proofs.lemmas.List.{append-nil, take-append-drop, nil_from_length}
use Rattle.std.proofs.lemmas.List.Sums.{sum_by-append}
use Rattle.script_streams.specs.Streams.{SinkState, Tally, IsTally, tally_after, Gave, Took, Wrote, Rose, Taken, TakenWhole, Cut}

pub Gave-nothing : (left : Option (List ℕ)) → Gave left left []
Gave-nothing None = tt
Gave-nothing (Some bytes) = refl

pub Gave-append : (a b c : Option (List ℕ)) (xs ys : List ℕ) → Gave a b xs → Gave b c ys → Gave a c (xs ++ ys)
Gave-append None b c xs ys first second = tt
Gave-append (Some a) None c xs ys first second = absurd first
Gave-append (Some a) (Some b) None xs ys first second = absurd second
Gave-append (Some a) (Some b) (Some c) xs ys first second = first ∙ ap (λ z. xs ++ z) second ∙ sym (append_assoc xs ys c)

pub Took-nothing : (taken : Option (List ℕ)) → Took taken taken []
Took-nothing None = tt
Took-nothing (Some bytes) = sym (append-nil bytes)

pub Took-append : (a b c : Option (List ℕ)) (xs ys : List ℕ) → Took a b xs → Took b c ys → Took a c (xs ++ ys)
Took-append a b None xs ys first second = tt
Took-append a None (Some c) xs ys first second = absurd second
Took-append None (Some b) (Some c) xs ys first second = absurd first
Took-append (Some a) (Some b) (Some c) xs ys first second = second ∙ ap (λ z. z ++ ys) first ∙ append_assoc a xs ys

-- the tally of two writes, one after the other, is that of both
pub tally_after-append : (t : Tally) (xs ys : List ℕ) → tally_after (tally_after t xs) ys ≡ tally_after t (xs ++ ys)
tally_after-append t xs ys =
    let count : ((t.count + length xs) % 2 ^ 32 + length ys) % 2 ^ 32 ≡ (t.count + length (xs ++ ys)) % 2 ^ 32 = omega (arith, length-append xs ys) in
    let total : ((t.sum + sum xs) % 2 ^ 32 + sum ys) % 2 ^ 32 ≡ (t.sum + sum (xs ++ ys)) % 2 ^ 32 = omega (arith, sum_by-append (λ (x : ℕ). x) xs ys) in
    cc

-- the result of `tally_after` is a tally
pub tally_after-is : (t : Tally) (xs : List ℕ) → IsTally (tally_after t xs)
tally_after-is t xs = record { count = omega arith; sum = omega arith }

pub tally_after-nothing : (t : Tally) → IsTally t → tally_after t [] ≡ t
tally_after-nothing t is =
    let count : (t.count + 0) % 2 ^ 32 ≡ t.count = omega arith in
    let total : (t.sum + 0) % 2 ^ 32 ≡ t.sum = omega arith in
    rw (count, total)

pub Wrote-nothing : (s : SinkState) → Wrote s s []
Wrote-nothing s = record {
  took = Took-nothing s.taken;
  told = λ before is fits. is ∙ ap Some (sym (append-nil before));
  room = refl;
  tally = λ before is whole. is ∙ ap Some (sym (tally_after-nothing before whole));
}

pub Wrote-append : (a b c : SinkState) (xs ys : List ℕ) → Wrote a b xs → Wrote b c ys → Wrote a c (xs ++ ys)
Wrote-append a b c xs ys first second = record {
  took = Took-append a.taken b.taken c.taken xs ys first.took second.took;
  told = λ before is fits.
      let mid : b.taken ≡ Some (before ++ xs) = first.told before is (omega (arith, fits, length-append xs ys)) in
      second.told (before ++ xs) mid (omega (arith, fits, first.room, length-append before xs, length-append xs ys))
      ∙ ap Some (append_assoc before xs ys);
  room = second.room ∙ first.room;
  tally = λ before is whole.
      second.tally (tally_after before xs) (first.tally before is whole) (tally_after-is before xs)
      ∙ ap Some (tally_after-append before xs ys);
}

-- the part of the text before `rest` was written
pub record IsWrittenTo (old new : SinkState) (text rest : List ℕ) : Type 0 where
  pub written : List ℕ
  pub whole : text ≡ written ++ rest
  pub wrote : Wrote old new written
  pub faults : new.faults ≡ old.faults

pub written_to_start : (s : SinkState) (text : List ℕ) → IsWrittenTo s s text text
written_to_start s text = record { written = []; whole = refl; wrote = Wrote-nothing s; faults = refl }

module _ (old mid new : SinkState) (text rest : List ℕ) (before : IsWrittenTo old mid text rest) where
  pub written_to_more : (n : ℕ) → Taken n mid new rest → 0 < n → IsWrittenTo old new text (drop n rest)
  written_to_more n taken some = record {
    written = before.written ++ take n rest;
    whole = before.whole ∙ ap (λ z. before.written ++ z) (sym (take-append-drop n rest)) ∙ sym (append_assoc before.written (take n rest) (drop n rest));
    wrote = Wrote-append _ _ _ _ _ before.wrote taken.wrote;
    faults = taken.something some ∙ before.faults;
  }

  pub written_to_cut : Cut mid new rest → Cut old new text
  written_to_cut cut = record {
    front = before.written ++ cut.front;
    starts = (cut.starts.0, before.whole ∙ ap (λ z. before.written ++ z) cut.starts.1 ∙ sym (append_assoc before.written cut.front cut.starts.0));
    wrote = Wrote-append _ _ _ _ _ before.wrote cut.wrote;
    faults = subst (λ n. Rose n new.faults) before.faults cut.faults;
  }

  pub written_to_stop : (n : ℕ) → Taken n mid new rest → n ≡ 0 → 0 < length rest → Cut old new text
  written_to_stop n taken none more = written_to_cut (record {
    front = take n rest;
    starts = (drop n rest, sym (take-append-drop n rest));
    wrote = taken.wrote;
    faults = taken.nothing none more;
  })

pub written_to_end : (old new : SinkState) (text rest : List ℕ) → IsWrittenTo old new text rest → length rest ≡ 0 → TakenWhole old new text
written_to_end old new text rest before none = record {
  wrote = subst (λ z. Wrote old new z)
      (sym (before.whole ∙ ap (λ z. before.written ++ z) (nil_from_length rest none) ∙ append-nil before.written)) before.wrote;
  faults = before.faults;
}
