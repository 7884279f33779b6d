-- A mirror along events: what the next one adds to those that were taken, and where events of one history lead.
use Rattle.std.proofs.Common.{◌≡◌, ℕ, ◌+◌, ◌<◌, nat_lt, Bool, true, false, cond, List, [], ◌∷◌, ◌++◌, length, take, drop, get_or, Option, Some, None, refl, ap, sym, subst, ◌∙◌, arith}
use Rattle.std.specs.Bool.{⊤}
use Rattle.std.specs.List.{All, slice_get}
use Rattle.std.proofs.lemmas.Bool.{ltb-false}
use Rattle.std.proofs.lemmas.List.{take_more, take-append-drop}
use Rattle.std.proofs.lemmas.List.Elements.{All-get_or}
use Rattle.std.proofs.lemmas.Option.{slice_get_read}
use Rattle.batch_rules.specs.Events.{EventState, first_misfit, after_batches}
use Rattle.mirror_rules.specs.Mirrors.{MirrorState, Arrival, old, gap, misfit, followed, carried_out, taken}
use Rattle.mirror_rules.specs.Following.{Followed, counted, after_event, followed_from, followed_by, LeadsAlong}
use Rattle.mirror_rules.specs.declared.Tally.{Tally}
use Rattle.mirror_model.specs.Outcomes.{count, went, Holds, WouldChange}
use Rattle.mirror_model.proofs.Misfits.{next_in}

followed_from-append : (f : Followed) (es more : List EventState) → followed_from f (es ++ more) ≡ followed_from (followed_from f es) more
followed_from-append f [] more = refl
followed_from-append f (e ∷ es) more = followed_from-append (after_event f f.ended e) es more

-- after one that did not fit no other is taken
followed_from-ended : (f : Followed) (n : ℕ) (es : List EventState) → f.ended ≡ Some n → followed_from f es ≡ f
followed_from-ended f n [] ended = refl
followed_from-ended f n (e ∷ es) ended = ap (λ o. followed_from (after_event f o e) es) ended ∙ followed_from-ended f n es ended

-- the first events led here, and this is the next
module _ (m now : MirrorState) (events : List EventState) (i : ℕ) (e : EventState) (tally : Tally) (so_far : followed_by m (take i events) ≡ went now tally None)
    (inside : i < length events) (is : e ≡ get_or events i e) where
  one_event_more : followed_by m (take (i + 1) events) ≡ counted (went now tally None) (taken now e)
  one_event_more =
      let more : take (i + 1) events ≡ take i events ++ e ∷ [] = take_more events i e inside ∙ ap (λ o. take i events ++ o ∷ []) (sym is) in
      ap (followed_by m) more ∙ followed_from-append _ (take i events) (e ∷ []) ∙ ap (λ f. followed_from f (e ∷ [])) so_far

  ends_here : (n : ℕ) → taken now e ≡ misfit n → followed_by m events ≡ went now tally (Some n)
  ends_here n misfits =
      let all : events ≡ take i events ++ e ∷ drop (i + 1) events =
      sym (take-append-drop i events) ∙ ap (λ l. take i events ++ l) (next_in events i e inside is) in
      ap (followed_by m) all ∙ followed_from-append _ (take i events) (e ∷ drop (i + 1) events)
      ∙ ap (λ f. followed_from f (e ∷ drop (i + 1) events)) so_far
      ∙ ap (λ a. followed_from (counted (went now tally None) a) (drop (i + 1) events)) misfits
      ∙ followed_from-ended (went now tally (Some n)) n (drop (i + 1) events) refl

-- what an answer says of the event
abbrev Tells : MirrorState → EventState → Arrival → Type 0
Tells m e old = ⊤
Tells m e (gap have need) = ⊤
Tells m e (misfit n) = (e.from ≡ m.version) × (first_misfit m.units e.batches ≡ Some n)
Tells m e (followed next) = (e.from ≡ m.version) × (next ≡ record { version = m.version + 1; units = after_batches m.units e.batches })

tells_at : (m : MirrorState) (e : EventState) (before after : Bool) (found : Option ℕ) → nat_lt e.from m.version ≡ before → nat_lt m.version e.from ≡ after → first_misfit m.units e.batches ≡ found
    → Tells m e (cond before old (cond after (gap m.version e.from) (carried_out m e.batches found)))
tells_at m e true after found is_before is_after is_found = tt
tells_at m e false true found is_before is_after is_found = tt
tells_at m e false false (Some n) is_before is_after is_found =
    let above = ltb-false _ _ is_before in
    let below = ltb-false _ _ is_after in
    (omega arith, is_found)
tells_at m e false false None is_before is_after is_found =
    let above = ltb-false _ _ is_before in
    let below = ltb-false _ _ is_after in
    (omega arith, refl)

tells : (m : MirrorState) (e : EventState) (a : Arrival) → taken m e ≡ a → Tells m e a
tells m e a comes = subst (Tells m e) comes (tells_at m e _ _ _ refl refl refl)

-- a mirror that has the text of its version, and an event of the history of these texts
module _ (t : ℕ → List ℕ) (m : MirrorState) (e : EventState) (leads : LeadsAlong t e) (holds : m.units ≡ t m.version) where
  leads_on : (next : MirrorState) → taken m e ≡ followed next → (next.units ≡ t next.version) × (next.version ≡ m.version + 1)
  leads_on next comes =
      let told = tells m e (followed next) comes in
      let same : m.units ≡ t e.from = holds ∙ ap t (sym told.0) in
      let reached : after_batches m.units e.batches ≡ t (m.version + 1) = ap (λ x. after_batches x e.batches) same ∙ leads.text ∙ ap (λ n. t (n + 1)) told.0 in
      rw told.1 (reached, refl)

  fits_always : (n : ℕ) → taken m e ≡ misfit n → ⊥
  fits_always n comes =
      let told = tells m e (misfit n) comes in
      let same : m.units ≡ t e.from = holds ∙ ap t (sym told.0) in
      let wrong : Some n ≡ None = sym told.1 ∙ ap (λ x. first_misfit x e.batches) same ∙ leads.fits in
      cc

-- what so many of the events leave
pub record IsFollowed (m : MirrorState) (events : List EventState) (i : ℕ) (now : MirrorState) (tally : Tally) : Type 0 where
  pub led : followed_by m (take i events) ≡ went now tally None
  pub counted : count tally ≡ i
  pub texts : (t : ℕ → List ℕ) → All (LeadsAlong t) events → m.units ≡ t m.version → Holds t tally m now

module _ (m now : MirrorState) (events : List EventState) (i : ℕ) (e : EventState) (tally : Tally) (so_far : IsFollowed m events i now tally)
    (inside : i < length events) (is : e ≡ get_or events i e) where
  more : (a : Arrival) → taken now e ≡ a → followed_by m (take (i + 1) events) ≡ counted (went now tally None) a
  more a comes = one_event_more m now events i e tally so_far.led inside is ∙ ap (counted (went now tally None)) comes

  leads : (t : ℕ → List ℕ) → All (LeadsAlong t) events → LeadsAlong t e
  leads t all = subst (LeadsAlong t) (sym is) (All-get_or (LeadsAlong t) events i e inside all)

  pub event_changes : (new : MirrorState) → taken now e ≡ followed new → IsFollowed m events (i + 1) new (record tally { applied = tally.applied + 1 })
  event_changes new comes = record {
    led = more (followed new) comes;
    counted = omega (arith, so_far.counted);
    texts = λ t all start.
        let holds = so_far.texts t all start in
        let on = leads_on t now e (leads t all) holds.0 new comes in
        (on.0, omega (arith, on.1, holds.1));
  }

  pub event_is_old : (new : MirrorState) → new ≡ now → taken now e ≡ old → IsFollowed m events (i + 1) new (record tally { old = tally.old + 1 })
  event_is_old new same comes =
      subst (λ n. IsFollowed m events (i + 1) n (record tally { old = tally.old + 1 })) (sym same)
      (record {
        led = more old comes;
        counted = omega (arith, so_far.counted);
        texts = so_far.texts;
      })

  pub event_is_early : (new : MirrorState) (have need : ℕ) → new ≡ now → taken now e ≡ gap have need → IsFollowed m events (i + 1) new (record tally { gaps = tally.gaps + 1 })
  event_is_early new have need same comes =
      subst (λ n. IsFollowed m events (i + 1) n (record tally { gaps = tally.gaps + 1 })) (sym same)
      (record {
        led = more (gap have need) comes;
        counted = omega (arith, so_far.counted);
        texts = so_far.texts;
      })

  -- an event that does not fit ends the run
  pub event_misfits : (new : MirrorState) (n : ℕ) → new ≡ now → taken now e ≡ misfit n → followed_by m events ≡ went new tally (Some n)
  event_misfits new n same comes =
      ends_here m now events i e tally so_far.led inside is n comes ∙ ap (λ w. went w tally (Some n)) (sym same)

  pub none_misfits : (n : ℕ) → taken now e ≡ misfit n → (t : ℕ → List ℕ) → All (LeadsAlong t) events → m.units ≡ t m.version → ⊥
  none_misfits n comes t all start = fits_always t now e (leads t all) (so_far.texts t all start).0 n comes

  -- and so does one for which there is no memory
  pub event_lacks_memory : (new next : MirrorState) → new ≡ now → taken now e ≡ followed next
      → (followed_by m (take (count tally) events) ≡ went new tally None) × WouldChange new events (count tally)
  event_lacks_memory new next same comes =
      let at : slice_get events i ≡ Some e = slice_get_read events (length events) i e refl inside is in (
        ap (λ k. followed_by m (take k events)) so_far.counted ∙ so_far.led ∙ ap (λ w. went w tally None) (sym same),
        (e, next, ap (slice_get events) so_far.counted ∙ at, ap (λ w. taken w e) same ∙ comes),
      )
