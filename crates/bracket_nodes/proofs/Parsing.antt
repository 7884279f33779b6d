-- The steps of the parser.
use Rattle.std.proofs.Common.{◌≡◌, ℕ, suc, sum, ◌+◌, ◌<◌, ◌≤◌, ◌≢◌, ◌⊎◌, Bool, true, false, cond, eqb, Some, None, List, [], ◌∷◌, ◌++◌, refl, ap, sym, ◌∙◌, subst, arith, inl, inr}
use Rattle.std.proofs.lemmas.Bool.Decides.{eqb_tells}
use Rattle.bracket_rules.specs.declared.TheConstants.{MOST_OPEN}
use Rattle.bracket_rules.specs.Rows.{Row}
use Rattle.bracket_rules.specs.TextRows.{HasRow, glue}
use Rattle.bracket_tree_rules.specs.Tree.{Tree, pair, stray, capped, bracket_row, tree_rows, weight, is_missing, IsLone, items}
use Rattle.bracket_tree_rules.specs.Weights.{glue_weights, tree_weights, all_weights, AreCovered}
use Rattle.bracket_tree_rules.specs.Told.{has_kind, with_kind, Tells, IsTreeOf}
use Rattle.bracket_tree_rules.proofs.Weights.{weight_pos}
use Rattle.bracket_tree_rules.proofs.LineWeights.{HasWeight, zero_glue, glue_zero, HasWeight-tree, glue_weights-assoc, AreCovered-same, AreCovered-then, AreCovered-glue, covered_after, sum_after, sum-tree_weights, all_weights-append, all_weights-items}
use Rattle.bracket_tree_rules.proofs.KindSets.{has_kind-none, has_kind-with_other}
use Rattle.bracket_tree_rules.proofs.Telling.{Tells-none, Tells-append, Tells-fitting, Tells-stray, Tells-capped, Tells-paired, Tells-unclosed_end, Tells-unclosed_below, not_missing_inside}
use Rattle.bracket_tree_rules.proofs.Whole.{IsTreeOf-from_Tells}
use Rattle.bracket_nodes.specs.declared.parser.Stop.{Stop}
use Rattle.bracket_nodes.specs.declared.parser.Stop.TheVariants.{AtEnd, AtClosing}
use Rattle.bracket_nodes.specs.declared.parser.Taken.TheVariants.{One, Last, Nothing}
use Rattle.bracket_nodes.specs.Source.{Ahead, Asking, AsksOn, Ends, weights_ahead, weight_ahead, GivesNode, GivesBracket, rows_after, weights_after, Listed, Parsed, Takes, closing_taken, pair_taken, HasWidth, Reads}

same_ahead : (kinds level : ℕ) (from from' rest : List Row) (ts : List Tree) → from ≡ from' → Tells kinds level from' rest ts → Tells kinds level from rest ts
same_ahead kinds level from from' rest ts h t = subst (λ (x : List Row). Tells kinds level x rest ts) (sym h) t

-- ---- weights

-- a weight of 0 before the rest
nothing_after : (rest old : List ℕ) → HasWeight rest → AreCovered rest old → AreCovered (glue_weights (0 ∷ []) rest) old
nothing_after rest old h k = subst (λ (ws : List ℕ). AreCovered ws old) (sym (zero_glue rest h)) k

-- brackets around the parse of their content
covered_pair : (before behind : ℕ) (inside rest mid old : List ℕ) → AreCovered (glue_weights (before ∷ []) mid) old
    → AreCovered (glue_weights inside (glue_weights (behind ∷ []) rest)) mid
    → AreCovered (glue_weights (glue_weights (glue_weights (before ∷ []) inside) (behind ∷ [])) rest) old
covered_pair before behind inside rest mid old h k =
    subst (λ (ws : List ℕ). AreCovered ws old) (sym (glue_weights-assoc (glue_weights (before ∷ []) inside) (behind ∷ []) rest))
    (covered_after (before ∷ []) inside (glue_weights (behind ∷ []) rest) mid old h k)

-- the rest is covered with a weight of 0 before it
covered_behind_nothing : (inside rest mid : List ℕ) → HasWeight rest → AreCovered (glue_weights inside rest) mid
    → AreCovered (glue_weights inside (glue_weights (0 ∷ []) rest)) mid
covered_behind_nothing inside rest mid h k =
    subst (λ (ws : List ℕ). AreCovered (glue_weights inside ws) mid) (sym (zero_glue rest h)) k

-- ---- what all lines weigh together

weight_after : (ws : List ℕ) (old new : Ahead) → AreCovered (glue_weights ws (weights_ahead new)) (weights_ahead old)
    → sum ws + weight_ahead new ≤ weight_ahead old
unfolding weight_ahead
weight_after ws old new h = sum_after ws (weights_ahead new) (weights_ahead old) h

pub bracket_weighs : (old new : Ahead) (k w : ℕ) (opening : Bool) → GivesBracket old new k w opening → w + weight_ahead new ≤ weight_ahead old
bracket_weighs old new k w opening h = omega (arith, weight_after (w ∷ []) old new h.weighs)

-- ---- what the source gives

pub Takes-end : (old new : Ahead) (kinds level : ℕ) → Ends old new → Takes old new kinds level (Nothing AtEnd)
unfolding weight_ahead
Takes-end old new kinds level h =
    let has_row : HasRow new.rows = subst HasRow (sym h.over.empty) tt in
    record {
      tells = same_ahead kinds level old.rows new.rows new.rows [] h.rows (Tells-none kinds level new.rows has_row);
      stops = h.over;
      weighs = subst (λ (ws : List ℕ). AreCovered (glue_weights (0 ∷ []) (weights_after AtEnd new)) ws) (sym h.weights)
          (nothing_after (weights_after AtEnd new) (weights_ahead new) tt (nothing_after (weights_ahead new) (weights_ahead new) tt (AreCovered-same (weights_ahead new))));
      together = let same : sum (weights_ahead old) ≡ sum (weights_ahead new) = ap sum h.weights in omega arith;
      rest = has_row;
    }

pub Takes-ready : (old new : Ahead) (kinds level : ℕ) (t : Tree) → GivesNode old new kinds level t → Parsed old new kinds level t
Takes-ready old new kinds level t h = record {
  tells = same_ahead kinds level old.rows (glue (tree_rows t) new.rows) new.rows (items t) h.spells (Tells-fitting kinds level t new.rows h.tree h.fits);
  some = weight_pos t h.tree h.some;
  weighs = h.weighs;
  together = omega (arith, weight_after (tree_weights t) old new h.weighs, sum-tree_weights t);
  rest = h.rest;
}

lone : (old new : Ahead) (k w : ℕ) (opening : Bool) → GivesBracket old new k w opening → IsLone k w
lone old new k w opening h = record { has_kind = h.has_kind; wide = h.wide }

pub Takes-closing : (old new : Ahead) (kinds level k w : ℕ) → level ≤ MOST_OPEN → GivesBracket old new k w false
    → Takes old new kinds level (closing_taken kinds k w)
Takes-closing old new kinds level k w room h = either (has_kind kinds k) refl
  where
    either : (b : Bool) → b ≡ has_kind kinds k → Takes old new kinds level (cond b (Nothing (AtClosing k w)) (One (stray k w)))
    either true e = record {
      tells = same_ahead kinds level old.rows (glue (bracket_row k w false) new.rows) (glue (bracket_row k w false) new.rows) [] h.spells
          (Tells-none kinds level (glue (bracket_row k w false) new.rows) (has_row new.rows h.rest));
      stops = record { is_open = sym e; has_kind = h.has_kind; wide = h.wide };
      weighs = nothing_after (glue_weights (w ∷ []) (weights_ahead new)) (weights_ahead old) tt h.weighs;
      together = omega (arith, bracket_weighs old new k w false h);
      rest = h.rest;
    }
      where
        has_row : (rows : List Row) → HasRow rows → HasRow (glue (bracket_row k w false) rows)
        has_row [] g = elim g [ ]
        has_row (r ∷ rows) g = tt
    either false e = record {
      tells = same_ahead kinds level old.rows (glue (bracket_row k w false) new.rows) new.rows (stray k w ∷ []) h.spells
          (Tells-stray kinds level k w new.rows (lone old new k w false h) room (sym e));
      some = h.wide;
      weighs = h.weighs;
      together = bracket_weighs old new k w false h;
      rest = h.rest;
    }

pub Takes-capped : (old new : Ahead) (kinds level k w : ℕ) → level ≡ MOST_OPEN → GivesBracket old new k w true
    → Parsed old new kinds level (capped k w)
Takes-capped old new kinds level k w full h = record {
  tells = subst (λ (n : ℕ). Tells kinds n old.rows new.rows (capped k w ∷ [])) (sym full)
      (same_ahead kinds MOST_OPEN old.rows (glue (bracket_row k w true) new.rows) new.rows (capped k w ∷ []) h.spells
      (Tells-capped kinds k w new.rows));
  some = h.wide;
  weighs = h.weighs;
  together = bracket_weighs old new k w true h;
  rest = h.rest;
}

-- ---- pairs

module _ (old mid new : Ahead) (kinds level k w : ℕ) (t : Tree) (below : level < MOST_OPEN) (h : GivesBracket old mid k w true) where
  unclosed_end : Listed mid new (with_kind kinds k) (suc level) t AtEnd → Listed old new kinds level (pair k w t None) AtEnd
  unclosed_end l = record {
    tells = same_ahead kinds level old.rows (glue (bracket_row k w true) mid.rows) new.rows (pair k w t None ∷ []) h.spells
        (subst (λ (x : List Row). Tells kinds level (glue (bracket_row k w true) mid.rows) x (pair k w t None ∷ [])) (sym l.stops.empty)
        (Tells-unclosed_end kinds level k w mid.rows t below
        (subst (λ (x : List Row). Tells (with_kind kinds k) (suc level) mid.rows x (items t)) l.stops.empty l.tells)));
    stops = l.stops;
    weighs =
        covered_pair w 0 (tree_weights t) (weights_after AtEnd new) (weights_ahead mid) (weights_ahead old) h.weighs
        (covered_behind_nothing (tree_weights t) (weights_after AtEnd new) (weights_ahead mid) tt l.weighs);
    together = omega (arith, bracket_weighs old mid k w true h, l.together);
    rest = l.rest;
  }

  unclosed_below : (j v : ℕ) → j ≢ k → Listed mid new (with_kind kinds k) (suc level) t (AtClosing j v)
      → Listed old new kinds level (pair k w t None) (AtClosing j v)
  unclosed_below j v differ l =
      let is_open : has_kind kinds j ≡ true = sym (has_kind-with_other kinds k j differ) ∙ l.stops.is_open in
      record {
        tells = same_ahead kinds level old.rows (glue (bracket_row k w true) mid.rows) (glue (bracket_row j v false) new.rows) (pair k w t None ∷ []) h.spells
            (Tells-unclosed_below kinds level k w j v mid.rows new.rows t below l.rest differ is_open l.tells);
        stops = record { is_open = is_open; has_kind = l.stops.has_kind; wide = l.stops.wide };
        weighs =
            covered_pair w 0 (tree_weights t) (weights_after (AtClosing j v) new) (weights_ahead mid) (weights_ahead old) h.weighs
            (covered_behind_nothing (tree_weights t) (weights_after (AtClosing j v) new) (weights_ahead mid) tt l.weighs);
        together = omega (arith, bracket_weighs old mid k w true h, l.together);
        rest = l.rest;
      }

  closed : (v : ℕ) → Listed mid new (with_kind kinds k) (suc level) t (AtClosing k v) → Parsed old new kinds level (pair k w t (Some v))
  closed v l = record {
    tells = same_ahead kinds level old.rows (glue (bracket_row k w true) mid.rows) new.rows (pair k w t (Some v) ∷ []) h.spells
        (Tells-paired kinds level k w v mid.rows new.rows t below l.tells);
    some = let wide : 0 < w = h.wide in omega arith;
    weighs = covered_pair w v (tree_weights t) (weights_ahead new) (weights_ahead mid) (weights_ahead old) h.weighs l.weighs;
    together = omega (arith, bracket_weighs old mid k w true h, l.together);
    rest = l.rest;
  }

pub Takes-paired : (old mid new : Ahead) (kinds level k w : ℕ) (t : Tree) (stop : Stop) → level < MOST_OPEN → GivesBracket old mid k w true
    → Listed mid new (with_kind kinds k) (suc level) t stop → Takes old new kinds level (pair_taken k w t stop)
Takes-paired old mid new kinds level k w t AtEnd below h l = unclosed_end old mid new kinds level k w t below h l
Takes-paired old mid new kinds level k w t (AtClosing j v) below h l = either (eqb_tells j k)
  where
    at_kind : j ≡ k → Listed mid new (with_kind kinds k) (suc level) t (AtClosing k v)
    at_kind e = subst (λ (i : ℕ). Listed mid new (with_kind kinds k) (suc level) t (AtClosing i v)) e l

    either : ((eqb j k ≡ true) × (j ≡ k)) ⊎ ((eqb j k ≡ false) × (j ≢ k)) → Takes old new kinds level (pair_taken k w t (AtClosing j v))
    either (inl same) =
        subst (λ (b : Bool). Takes old new kinds level (cond b (One (pair k w t (Some v))) (Last (pair k w t None) (AtClosing j v)))) (sym same.0)
        (closed old mid new kinds level k w t below h v (at_kind same.1))
    either (inr differ) =
        subst (λ (b : Bool). Takes old new kinds level (cond b (One (pair k w t (Some v))) (Last (pair k w t None) (AtClosing j v)))) (sym differ.0)
        (unclosed_below old mid new kinds level k w t below h j v differ.1 l)

-- the precondition of `paired`
pub asks_not_missing : (mid new : Ahead) (kinds level k : ℕ) (t : Tree) (stop : Stop)
    → Listed mid new (with_kind kinds k) (suc level) t stop → is_missing k t ≡ false
asks_not_missing mid new kinds level k t stop l = not_missing_inside kinds level k mid.rows (rows_after stop new) t l.tells

pub asks_width : (mid new : Ahead) (kinds level : ℕ) (t : Tree) (stop : Stop) → Listed mid new kinds level t stop → HasWidth stop
asks_width mid new kinds level t AtEnd l = tt
asks_width mid new kinds level t (AtClosing j v) l = l.stops.wide

-- ---- what is asked for

pub AsksOn-same : (a : Asking) → AsksOn a a
AsksOn-same a = record { contents = refl; asked = refl; count = refl; borrows = refl }

pub AsksOn-then : (a b c : Asking) → AsksOn a b → AsksOn b c → AsksOn a c
AsksOn-then a b c h k = record {
  contents = k.contents ∙ h.contents;
  asked = k.asked ∙ h.asked;
  count = k.count ∙ h.count;
  borrows = k.borrows ∙ h.borrows;
}

-- ---- the loop

pub Reads-start : (start : Ahead) (kinds level : ℕ) → HasRow start.rows → Reads start start kinds level [] 0
Reads-start start kinds level h = record {
  tells = Tells-none kinds level start.rows h;
  weighs = nothing_after (weights_ahead start) (weights_ahead start) tt (AreCovered-same (weights_ahead start));
  together = omega arith;
  rest = h;
}

-- the nodes of one more tree
covered_list : (ts : List Tree) (t : Tree) (rest now start : List ℕ) → AreCovered (glue_weights (all_weights ts) now) start
    → AreCovered (glue_weights (tree_weights t) rest) now → AreCovered (glue_weights (all_weights (ts ++ items t)) rest) start
covered_list ts t rest now start h k =
    subst (λ (ws : List ℕ). AreCovered (glue_weights ws rest) start)
    (sym (all_weights-append ts (items t) ∙ ap (glue_weights (all_weights ts)) (all_weights-items t)))
    (covered_after (all_weights ts) (tree_weights t) rest now start h k)

pub Reads-one : (start now next : Ahead) (kinds level : ℕ) (ts : List Tree) (w : ℕ) (t : Tree)
    → Reads start now kinds level ts w → Parsed now next kinds level t → Reads start next kinds level (ts ++ items t) (w + weight t)
Reads-one start now next kinds level ts w t r p = record {
  tells = Tells-append kinds level start.rows now.rows next.rows ts (items t) r.tells p.tells;
  weighs = covered_list ts t (weights_ahead next) (weights_ahead now) (weights_ahead start) r.weighs p.weighs;
  together = omega (arith, r.together, p.together);
  rest = p.rest;
}

pub Listed-after : (start now new : Ahead) (kinds level : ℕ) (ts : List Tree) (w : ℕ) (t list : Tree) (stop : Stop)
    → Reads start now kinds level ts w → Listed now new kinds level t stop
    → items list ≡ ts ++ items t → weight list ≡ w + weight t → Listed start new kinds level list stop
Listed-after start now new kinds level ts w t list stop r l nodes weighs = record {
  tells = subst (λ (x : List Tree). Tells kinds level start.rows (rows_after stop new) x) (sym nodes)
      (Tells-append kinds level start.rows now.rows (rows_after stop new) ts (items t) r.tells l.tells);
  stops = l.stops;
  weighs =
      subst (λ (ws : List ℕ). AreCovered (glue_weights ws (weights_after stop new)) (weights_ahead start))
      (ap all_weights (sym nodes) ∙ all_weights-items list)
      (covered_list ts t (weights_after stop new) (weights_ahead now) (weights_ahead start) r.weighs l.weighs);
  together = omega (arith, r.together, l.together, weighs);
  rest = l.rest;
}

-- ---- the whole text

pub whole : (start new : Ahead) (t : Tree) (stop : Stop) → Listed start new 0 0 t stop → IsTreeOf start.rows t
whole start new t AtEnd l =
    IsTreeOf-from_Tells start.rows t (subst (λ (x : List Row). Tells 0 0 start.rows x (items t)) l.stops.empty l.tells)
whole start new t (AtClosing j v) l =
    let clash : false ≡ true = sym (has_kind-none j) ∙ l.stops.is_open in cc

-- without the weight after it in its last line
covered_front : (a : List ℕ) (n : ℕ) (old : List ℕ) → HasWeight a → AreCovered (glue_weights a (n ∷ [])) old → AreCovered a old
covered_front a n old h k =
    AreCovered-then a (glue_weights a (n ∷ [])) old
    (subst (λ (ws : List ℕ). AreCovered ws (glue_weights a (n ∷ []))) (glue_zero a h)
    (AreCovered-glue a a (0 ∷ []) (n ∷ []) (AreCovered-same a) (omega arith, tt))) k

-- no line is left to ask for
pub whole_asked : (start new : Ahead) (t : Tree) (stop : Stop) → Listed start new 0 0 t stop → new.asking.left ≡ []
whole_asked start new t AtEnd l = l.stops.asked
whole_asked start new t (AtClosing j v) l = let clash : false ≡ true = sym (has_kind-none j) ∙ l.stops.is_open in cc

-- in each line the tree of a whole text weighs at most the bound
pub whole_light : (start new : Ahead) (t : Tree) (stop : Stop) → Listed start new 0 0 t stop → AreCovered (tree_weights t) (weights_ahead start)
whole_light start new t (AtClosing j v) l = let clash : false ≡ true = sym (has_kind-none j) ∙ l.stops.is_open in cc
whole_light start new t AtEnd l =
    covered_front (tree_weights t) (0 + new.line) (weights_ahead start) (HasWeight-tree t)
    (subst (λ (ws : List ℕ). AreCovered (glue_weights (tree_weights t) ((0 + new.line) ∷ ws)) (weights_ahead start)) l.stops.last l.weighs)
