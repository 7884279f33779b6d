-- If the tags of the last steps of a document are lost, the tags that another document loses are the last of those that the two share.
use Rattle.std.proofs.Common.{◌≡◌, ℕ, suc, ◌+◌, ◌<◌, ◌≤◌, ◌&&◌, ◌||◌, not, nat_lt, arith, Bool, true, false, if◌then◌else◌, List, [], ◌∷◌, ◌++◌, length, take, drop, map, reverse, filter, Option, Some, None, option_to_list, refl, sym, ap, ap₂, All, subst, ◌∙◌, ⊎_elim}
use Rattle.std.specs.List.{list_any, flat_map}
use Rattle.std.proofs.lemmas.Bool.{true≢false, cases_lt, lt-ltb, le-ltb, ltb-true, false_from_ne_true}
use Rattle.std.proofs.lemmas.List.{map-append, length-append, length-map, take-append-drop}
use Rattle.std.proofs.lemmas.List.Elements.{All-head, All-tail, filter-append}
use Rattle.undo_rules.specs.declared.Tag.{Tag}
use Rattle.undo_rules.specs.Stack.{Step, Stack}
use Rattle.undo_rules.specs.Tags.{all_steps, is_member, passes, tagged_count, untagged_last, with_steps}
use Rattle.undo_rules.proofs.LastTags.{map_reverse, with_steps-same}
use Rattle.document_rules.specs.Document.{FlatChange, FlatState, flat_untag_last}
use Rattle.group_rules.specs.declared.TheConstants.{DOC_COUNT}
use Rattle.group_rules.specs.Group.{FlatGroup, doc_in, tags_of, without_tags}
use Rattle.group_rules.specs.Shared.{times, shared_with, undo_tags, redo_tags, AreShared}
use Rattle.group_rules.proofs.Times.{times_head, times_tail, times-append, times-filter-le, times_filter_passes, filter_same, filter_comm, filter_all}
use Rattle.group_rules.proofs.InOrder.{same_times}
use Rattle.group_rules.proofs.Shared.{left}
use Rattle.group_rules.proofs.AllSteps.{tags_of-append, filter-reverse, tags_of-all_steps, times-all_steps}
use Rattle.group_rules.proofs.Losing.{kept, losing, losing_all, is_lost, lost_in, tags_of-losing, without_tags-is, lost_in-member, lost_in_only}

-- ---- one list of steps

tagged_count-is : (n : ℕ) (steps : List (Step FlatChange)) → tagged_count n steps ≡ length (filter (is_member n) (tags_of steps))
tagged_count-is n [] = refl
tagged_count-is n (step ∷ steps) = by step.tag _ (tagged_count-is n steps)
  where
    one : (b : Bool) (tag : Tag) (xs : List (Step FlatChange)) (ys : List Tag) → length xs ≡ length ys
        → length (if b then step ∷ xs else xs) ≡ length (if b then tag ∷ ys else ys)
    one true tag xs ys same = ap suc same
    one false tag xs ys same = same

    by : (tag : Option Tag) (xs : List (Step FlatChange)) → length xs ≡ length (filter (is_member n) (tags_of steps))
        → length (if passes (is_member n) tag then step ∷ xs else xs) ≡ length (filter (is_member n) (option_to_list tag ++ tags_of steps))
    by None xs same = same
    by (Some tag) xs same = one (is_member n tag) tag xs (filter (is_member n) (tags_of steps)) same

-- Of these tags, in their order, the last at most c are lost. Either no others are left, or exactly c are lost.
record AreSplit (lose : Tag → Bool) (c : ℕ) (tags front last : List Tag) : Type 0 where
  parts : tags ≡ front ++ last
  few : length last ≤ c
  rest : 0 < length front → c ≡ length last
  spared : (tag : Tag) → 0 < times tag front → lose tag ≡ false
  lost : (tag : Tag) → 0 < times tag last → lose tag ≡ true

-- where those of document n are split so, the last c of the steps with one lose it
abbrev LastLost : (Tag → Bool) → ℕ → ℕ → List (Step FlatChange) → Type 0
LastLost lose n c steps =
    (front last : List Tag) → AreSplit lose c (filter (is_member n) (tags_of steps)) front last → map (losing lose) steps ≡ untagged_last n c steps

-- the same, with a step before them that has this tag
abbrev OneMore : (Tag → Bool) → ℕ → ℕ → Step FlatChange → List (Step FlatChange) → Option Tag → Bool → Type 0
OneMore lose n c step steps tag pass =
    record step { tag = kept lose tag } ∷ map (losing lose) steps
    ≡ (if pass && nat_lt (tagged_count n steps) c then record step { tag = None } else step) ∷ untagged_last n c steps

module _ (lose : Tag → Bool) (n c : ℕ) (step : Step FlatChange) (steps : List (Step FlatChange)) (later : LastLost lose n c steps) where
  spared_one : (tag : Option Tag) → step.tag ≡ tag → kept lose tag ≡ tag → record step { tag = kept lose tag } ≡ step
  spared_one tag e stays = ap (λ (tag : Option Tag). record step { tag = tag }) (stays ∙ sym e)

  counted : (b : Bool) → nat_lt (length (filter (is_member n) (tags_of steps))) c ≡ b
      → (if b then record step { tag = None } else step) ≡ (if nat_lt (tagged_count n steps) c then record step { tag = None } else step)
  counted b is = ap (λ b. if b then record step { tag = None } else step) (sym (ap (λ n. nat_lt n c) (tagged_count-is n steps) ∙ is))

  one_more : (pass : Bool) (tag : Tag) (front last : List Tag) → step.tag ≡ Some tag → (lose tag ≡ true → pass ≡ true)
      → AreSplit lose c (if pass then tag ∷ filter (is_member n) (tags_of steps) else filter (is_member n) (tags_of steps)) front last
      → OneMore lose n c step steps (Some tag) pass
  one_more false tag front last e passing split =
      ap₂ (λ (s : Step FlatChange) rest. s ∷ rest)
      (spared_one (Some tag) e (ap (λ b. if b then None else Some tag) (false_from_ne_true (lose tag) (λ is. true≢false (sym (passing is))))))
      (later front last split)
  one_more true tag [] [] e passing split = let parts = split.parts in absurd cc
  one_more true tag [] (x ∷ last) e passing split =
      let parts = split.parts in
      let here : tag ≡ x = cc in
      let behind : filter (is_member n) (tags_of steps) ≡ last = cc in
      let goes = split.lost tag (subst (λ y. 0 < times tag (y ∷ last)) here (times_head tag last)) in
      ap₂ (λ (s : Step FlatChange) rest. s ∷ rest)
      (ap (λ b. record step { tag = if b then None else Some tag }) goes
      ∙ counted true (lt-ltb (length (filter (is_member n) (tags_of steps))) c (omega (arith, ap length behind, split.few))))
      (later [] last (record {
        parts = behind;
        few = omega (arith, split.few);
        rest = λ some. absurd (omega (arith, some));
        spared = split.spared;
        lost = λ other there. split.lost other (omega (arith, there, times_tail other x last));
      }))
  one_more true tag (x ∷ front) last e passing split =
      let parts = split.parts in
      let here : tag ≡ x = cc in
      let behind : filter (is_member n) (tags_of steps) ≡ front ++ last = cc in
      let stays = split.spared tag (subst (λ y. 0 < times tag (y ∷ front)) here (times_head tag front)) in
      let many : c ≡ length last = split.rest (omega arith) in
      ap₂ (λ (s : Step FlatChange) rest. s ∷ rest)
      (spared_one (Some tag) e (ap (λ b. if b then None else Some tag) stays)
      ∙ counted false (le-ltb (length (filter (is_member n) (tags_of steps))) c (omega (arith, many, ap length behind, length-append front last))))
      (later front last (record {
        parts = behind;
        few = split.few;
        rest = λ some. many;
        spared = λ other there. split.spared other (omega (arith, there, times_tail other x front));
        lost = split.lost;
      }))

last_lost : (lose : Tag → Bool) (n c : ℕ) (steps : List (Step FlatChange)) → ((tag : Tag) → lose tag ≡ true → is_member n tag ≡ true)
    → LastLost lose n c steps
last_lost lose n c [] passing front last split = refl
last_lost lose n c (step ∷ steps) passing front last split = by step.tag refl split (last_lost lose n c steps passing)
  where
    by : (tag : Option Tag) → step.tag ≡ tag → AreSplit lose c (filter (is_member n) (option_to_list tag ++ tags_of steps)) front last
        → LastLost lose n c steps → OneMore lose n c step steps tag (passes (is_member n) tag)
    by None e split later =
        ap₂ (λ (s : Step FlatChange) rest. s ∷ rest) (spared_one lose n c step steps later None e refl) (later front last split)
    by (Some tag) e split later = one_more lose n c step steps later (is_member n tag) tag front last e (passing tag) split

-- ---- the stack

all_steps-losing : (lose : Tag → Bool) (s : Stack FlatChange) → map (losing lose) (all_steps s) ≡ all_steps (losing_all lose s)
all_steps-losing lose s =
    map-append (losing lose) (reverse s.undo) s.redo ∙ ap (λ front. front ++ map (losing lose) s.redo) (map_reverse (losing lose) s.undo)

-- ---- two documents

-- what two documents share, in the order in which it was made
shared_all : (g : FlatGroup) (n k : ℕ) → AreShared g → n < DOC_COUNT → k < DOC_COUNT
    → shared_with k (tags_of (all_steps (doc_in g n).history)) ≡ shared_with n (tags_of (all_steps (doc_in g k).history))
shared_all g n k s below_n below_k =
    parts n k ∙ ap₂ (λ undos redos. reverse undos ++ redos) (s.in_order.undo n k below_n below_k) (s.in_order.redo n k below_n below_k)
    ∙ sym (parts k n)
  where
    parts : (n k : ℕ)
        → shared_with k (tags_of (all_steps (doc_in g n).history)) ≡ reverse (shared_with k (undo_tags g n)) ++ shared_with k (redo_tags g n)
    parts n k =
        ap (shared_with k) (tags_of-all_steps (doc_in g n).history) ∙ filter-append (is_member k) (reverse (undo_tags g n)) (redo_tags g n)
        ∙ ap (λ undos. undos ++ shared_with k (redo_tags g n)) (filter-reverse (is_member k) (undo_tags g n))

-- The tags of the steps of document n from the step of the number `first` on, which are lost in document k, where other tags were lost
-- before.
module _ (g : FlatGroup) (n k first : ℕ) (s : AreShared g) (below_n : n < DOC_COUNT) (below_k : k < DOC_COUNT) (before : List Tag) where
  abbrev steps : List (Step FlatChange)
  steps = all_steps (doc_in g n).history

  abbrev others : List Tag
  others = tags_of (take first steps)

  abbrev lost : List Tag
  lost = tags_of (drop first steps)

  parts : tags_of steps ≡ others ++ lost
  parts = sym (ap tags_of (take-append-drop first steps)) ∙ tags_of-append (take first steps) (drop first steps)

  both : (tag : Tag) → times tag (undo_tags g n) + times tag (redo_tags g n) ≡ times tag others + times tag lost
  both tag = sym (times-all_steps tag (doc_in g n).history) ∙ ap (times tag) parts ∙ times-append tag others lost

  is_there : (tag : Tag) → lost_in lost k tag ≡ true → 0 < times tag lost
  is_there tag is = ltb-true 0 (times tag lost) (sym (lost_in-member lost k tag (lost_in_only lost k tag is)) ∙ is)

  -- of the tags that document k shares with n, those that it has still
  abbrev still : List Tag → List Tag
  still tags = filter (left before) (shared_with k tags)

  still-le : (tag : Tag) (tags : List Tag) → times tag (still tags) ≤ times tag tags
  still-le tag tags = omega (arith, times-filter-le (left before) tag (shared_with k tags), times-filter-le (is_member k) tag tags)

  still_shared : shared_with n (tags_of (map (losing (lost_in before k)) (all_steps (doc_in g k).history))) ≡ still others ++ still lost
  still_shared =
      ap (shared_with n) (tags_of-losing (lost_in before k) (all_steps (doc_in g k).history))
      ∙ filter_comm (is_member n) (λ tag. not (lost_in before k tag)) (tags_of (all_steps (doc_in g k).history))
      ∙ ap (filter (λ tag. not (lost_in before k tag))) (sym (shared_all g n k s below_n below_k))
      ∙ filter_same (λ tag. not (lost_in before k tag)) (left before) (shared_with k (tags_of steps)) (λ tag there.
      ap not (lost_in-member before k tag (times_filter_passes (is_member k) tag (tags_of steps) there)))
      ∙ ap (λ tags. still tags) parts ∙ ap (filter (left before)) (filter-append (is_member k) others lost)
      ∙ filter-append (left before) (shared_with k others) (shared_with k lost)

  lose_last_steps : map (losing (lost_in lost k)) (map (losing (lost_in before k)) (all_steps (doc_in g k).history))
      ≡ untagged_last n (length (still lost)) (map (losing (lost_in before k)) (all_steps (doc_in g k).history))
  lose_last_steps =
      last_lost (lost_in lost k) n (length (still lost)) (map (losing (lost_in before k)) (all_steps (doc_in g k).history))
      (λ tag is. (s.in_order.own n tag below_n (omega (arith, both tag, is_there tag is))).member) (still others) (still lost)
      (record {
        parts = still_shared;
        few = omega arith;
        rest = λ some. refl;
        spared = λ tag there. false_from_ne_true (lost_in lost k tag) (λ is.
            omega (arith, there, still-le tag others, is_there tag is, both tag, s.in_order.once n tag below_n));
        lost = λ tag there.
            let shared : 0 < times tag (shared_with k lost) = omega (arith, there, times-filter-le (left before) tag (shared_with k lost)) in
            lost_in-member lost k tag (times_filter_passes (is_member k) tag lost shared)
            ∙ lt-ltb 0 (times tag lost) (omega (arith, there, still-le tag lost));
      })

  pub lose_last_after : without_tags lost k (without_tags before k (doc_in g k))
      ≡ flat_untag_last (without_tags before k (doc_in g k)) n (length (still lost))
  lose_last_after =
      let f = doc_in g k in
      let less = losing_all (lost_in before k) f.history in
      subst (λ (old : FlatState). without_tags lost k old ≡ flat_untag_last old n (length (still lost))) (sym (without_tags-is before k f))
      (without_tags-is lost k (record f { history = less })
      ∙ ap (λ (h : Stack FlatChange). record f { history = h })
      (sym (with_steps-same less (losing_all (lost_in lost k) less) (length-map less.undo (losing (lost_in lost k))) refl)
      ∙ ap (with_steps less)
      (sym (all_steps-losing (lost_in lost k) less)
      ∙ ap (map (losing (lost_in lost k))) (sym (all_steps-losing (lost_in before k) f.history))
      ∙ lose_last_steps
      ∙ ap (untagged_last n (length (still lost))) (all_steps-losing (lost_in before k) f.history))))

-- With first = 0 these are all its steps, and with the count of those that can be undone they are those that can be redone.
pub lose_last : (g : FlatGroup) (n k first : ℕ) → AreShared g → n < DOC_COUNT → k < DOC_COUNT
    → without_tags (tags_of (drop first (all_steps (doc_in g n).history))) k (doc_in g k)
    ≡ flat_untag_last (doc_in g k) n (length (shared_with k (tags_of (drop first (all_steps (doc_in g n).history)))))
lose_last g n k first s below_n below_k =
    lose_last_after g n k first s below_n below_k []
    ∙ ap (λ tags. flat_untag_last (doc_in g k) n (length tags)) (filter_all (shared_with k (tags_of (drop first (all_steps (doc_in g n).history)))))

-- ---- one document after another

-- A tag that can be redone in document n was lost before where one of the documents whose tags were lost is one of its documents.
pub lost_before : {X : Type 0} (doc : X → ℕ) (g : FlatGroup) (n : ℕ) (tag : Tag) (xs : List X) → AreShared g → n < DOC_COUNT
    → All (λ x. doc x < DOC_COUNT) xs → 0 < times tag (redo_tags g n)
    → is_lost (flat_map (λ x. redo_tags g (doc x)) xs) tag ≡ list_any (λ x. is_member (doc x) tag) xs
lost_before doc g n tag [] s below all there = refl
lost_before doc g n tag (x ∷ xs) s below all there =
    by (is_member (doc x) tag) refl (lost_before doc g n tag xs s below (All-tail (λ x. doc x < DOC_COUNT) x xs all) there)
  where
    rest : List Tag
    rest = flat_map (λ x. redo_tags g (doc x)) xs

    by : (b : Bool) → is_member (doc x) tag ≡ b
        → is_lost (flat_map (λ x. redo_tags g (doc x)) xs) tag ≡ list_any (λ x. is_member (doc x) tag) xs
        → is_lost (redo_tags g (doc x) ++ flat_map (λ x. redo_tags g (doc x)) xs) tag ≡ (b || list_any (λ x. is_member (doc x) tag) xs)
    by true e later =
        let member = (s.in_order.own n tag below (omega (arith, there))).member in
        let same = same_times (redo_tags g) (doc x) n tag s.in_order.redo (All-head (λ x. doc x < DOC_COUNT) x xs all) below e member in
        lt-ltb 0 (times tag (redo_tags g (doc x) ++ rest)) (omega (arith, there, same, times-append tag (redo_tags g (doc x)) rest))
    by false e later =
        let none : times tag (redo_tags g (doc x)) ≡ 0 =
        ⊎_elim
        (λ is. absurd (true≢false (sym (s.in_order.own (doc x) tag (All-head (λ x. doc x < DOC_COUNT) x xs all) (omega (arith, is))).member ∙ e)))
        (λ no. omega (arith, no)) (cases_lt 0 (times tag (redo_tags g (doc x)))) in
        ap (nat_lt 0) (omega (arith, none, times-append tag (redo_tags g (doc x)) rest)) ∙ later
