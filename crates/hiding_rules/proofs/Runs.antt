-- Runs of lines: the states of two runs in sequence, and of a run whose lines were scanned in sequence.
use Rattle.std.proofs.Common.{◌≡◌, ℕ, suc, List, [], ◌∷◌, ◌++◌, length, map, true, refl, ap, arith}
use Rattle.hiding_rules.specs.declared.LineState.{LineState}
use Rattle.hiding_rules.specs.declared.LineState.TheVariants.{Code, Block}
use Rattle.hiding_rules.specs.Hidden.{Scanner, hidden_scan}
use Rattle.hiding_rules.specs.States.{states_from}
use Rattle.hiding_rules.specs.Known.{Known, state_behind, same_state, scanned_lines, Lead, AreChained, all_known}

same_as_itself : (s : LineState) → same_state s s ≡ true
same_as_itself Code = refl
same_as_itself Block = refl

module _ (by : Scanner) where
  pub states_of_both : (state : LineState) (first second : List (List ℕ))
      → states_from by state (first ++ second)
      ≡ states_from by state first ++ states_from by (state_behind by state first) second
  states_of_both state [] second = refl
  states_of_both state (x ∷ first) second =
      ap (λ states. state ∷ states) (states_of_both (hidden_scan by state x).state first second)

  -- a run that was scanned from state `from` on: its states are the known ones, and none of its lines is scanned again
  pub record Stays (from to : LineState) (known : List Known) (lines : List (List ℕ)) : Type 0 where
    pub states : states_from by from lines ≡ map (λ k. k.begins) known
    pub behind : state_behind by from lines ≡ to
    pub none : (n : ℕ) → scanned_lines n (all_known known) (states_from by from lines) ≡ []

  pub chained_stays : (from to : LineState) (known : List Known) (lines : List (List ℕ)) → length known ≡ length lines
      → Lead by (all_known known) lines → AreChained from known to → Stays from to known lines
  chained_stays from to [] [] same lead chained = record { states = refl; behind = chained; none = λ n. refl }
  chained_stays from to [] (x ∷ lines) same lead chained = absurd cc
  chained_stays from to (k ∷ known) [] same lead chained = absurd cc
  chained_stays from to (k ∷ known) (x ∷ lines) same lead chained =
      let lengths : length known ≡ length lines = omega (arith, same) in
      let rest = chained_stays k.ends to known lines lengths lead.1 chained.1 in
      let begins = chained.0 in
      let ends : (hidden_scan by from x).state ≡ k.ends = let leads = lead.0 in cc in
      record {
        states = let states = rest.states in cc;
        behind = let behind = rest.behind in cc;
        none = λ n. let others = rest.none (suc n) in let here = same_as_itself k.begins in cc;
      }
