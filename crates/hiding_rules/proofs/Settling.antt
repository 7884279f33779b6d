-- Scanning only new and restarted lines gives the same states as scanning all lines.
use Rattle.std.proofs.Common.{◌≡◌, ℕ, Bool, true, false, cond, List, [], ◌∷◌, length, Option, Some, None, IfSome, refl, ap, sym, arith}
use Rattle.hiding_rules.specs.declared.LineState.{LineState}
use Rattle.hiding_rules.specs.declared.LineState.TheVariants.{Code, Block}
use Rattle.hiding_rules.specs.Hidden.{Scanner, hidden_scan}
use Rattle.hiding_rules.specs.States.{states_from}
use Rattle.hiding_rules.specs.Known.{Known, same_state, Lead, end_of, settled_from}

same_state_is : (s t : LineState) → same_state s t ≡ true → s ≡ t
same_state_is Code Code is = refl
same_state_is Block Block is = refl
same_state_is Code Block is = cc
same_state_is Block Code is = cc

module _ (by : Scanner) where
  end_is : (k : Option Known) (state : LineState) (x : List ℕ) → IfSome k (λ l. (hidden_scan by l.begins x).state ≡ l.ends)
      → end_of by k state x ≡ (hidden_scan by state x).state
  end_is None state x leads = refl
  end_is (Some k) state x leads = either (same_state k.begins state) refl
    where
      either : (b : Bool) → b ≡ same_state k.begins state
          → cond b k.ends (hidden_scan by state x).state ≡ (hidden_scan by state x).state
      either true e = let same = same_state_is k.begins state (sym e) in cc
      either false e = refl

  pub settled_states : (state : LineState) (known : List (Option Known)) (lines : List (List ℕ)) → length known ≡ length lines
      → Lead by known lines → settled_from by state known lines ≡ states_from by state lines
  settled_states state [] [] same lead = refl
  settled_states state [] (x ∷ lines) same lead = cc
  settled_states state (k ∷ known) [] same lead = cc
  settled_states state (k ∷ known) (x ∷ lines) same lead =
      let ends = end_is k state x lead.0 in
      let lengths : length known ≡ length lines = omega (arith, same) in
      let behind = settled_states (end_of by k state x) known lines lengths lead.1 in
      let states = ap (λ s. states_from by s lines) ends in
      cc
