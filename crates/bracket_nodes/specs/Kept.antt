-- What a node keeps of its tree.
use Rattle.std.specs.Prelude.{◌≡◌, ℕ, suc, ◌<◌, ◌^◌, true, false, ◌&&◌, ◌||◌, max, bit_or, Option, Some, None, unwrap_or}
use Rattle.text_lengths.specs.declared.Length.{Length}
use Rattle.text_lengths.specs.Length.{length_plus}
use Rattle.bracket_tree_rules.specs.Tree.{Tree, text, pair, stray, capped, nothing, two, three, tree_length, is_missing, is_closed, is_capped, nesting, height, highest, weight, IsTree}
use Rattle.bracket_tree_rules.specs.Told.{has_kind}
use Rattle.bracket_nodes.specs.declared.kept.Kept.{Kept}

abbrev pub later : Option ℕ → Option ℕ → Option ℕ
later first None = first
later first (Some level) = Some level

abbrev pub inside_level : Option ℕ → Option ℕ → Option ℕ
inside_level level None = Some (suc (unwrap_or level 0))
inside_level level (Some width) = Some 0

-- the level after the last entry, relative to the level of the tree; None if there is no entry
abbrev pub last_level : Tree → Option ℕ
last_level (text l) = None
last_level (pair kind open_width inside close_width) = inside_level (last_level inside) close_width
last_level (stray kind width) = Some 0
last_level (capped kind width) = None
last_level nothing = None
last_level (two a b) = later (last_level a) (last_level b)
last_level (three a b c) = later (last_level a) (later (last_level b) (last_level c))

-- the tree meets the rules of nodes, its weight fits 64 bits, and `kept` is what is kept of it
pub record Keeps (t : Tree) (kept : Kept) : Type 0 where
  pub tree : IsTree t
  pub light : weight t < 2 ^ 64
  pub length : kept.length ≡ tree_length t
  pub missing : (k : ℕ) → has_kind kept.missing k ≡ is_missing k t
  pub closed : kept.closed ≡ is_closed t
  pub capped : kept.capped ≡ is_capped t
  pub height : kept.height ≡ height t
  pub highest : kept.highest ≡ highest t
  pub nesting : kept.nesting ≡ nesting t
  pub last : kept.last_level ≡ last_level t

-- what is kept of a leaf
abbrev pub leaf_kept : Length → ℕ → Option ℕ → Kept
leaf_kept length missing last_level = record {
  length = length;
  missing = missing;
  closed = true;
  capped = false;
  height = 0;
  highest = 0;
  nesting = 0;
  last_level = last_level;
}

-- what is kept of a list of this height, computed from its parts
abbrev pub both_of : Kept → Kept → ℕ → Kept
both_of a b height = record {
  length = length_plus a.length b.length;
  missing = bit_or a.missing b.missing;
  closed = a.closed && b.closed;
  capped = a.capped || b.capped;
  height = height;
  highest = max height (max a.highest b.highest);
  nesting = max a.nesting b.nesting;
  last_level = later a.last_level b.last_level;
}
