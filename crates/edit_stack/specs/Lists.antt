-- What contracts see of a stack, and the invariant of its fields.
use Rattle.std.specs.Prelude.{◌≡◌, ℕ, ◌+◌, ◌≤◌, ◌&&◌, Bool, true, nat_lt, if◌then◌else◌, List, [], ◌∷◌, ◌++◌, map, take, drop, reverse, length, Option, Some, None, is_some}
use Rattle.edit_stack.specs.declared.element.Element.{Element}
use Rattle.edit_stack.specs.declared.stack.EditStack.TheInside.{Inside}
use Rattle.edit_stack.specs.Element.{step_of}
use Rattle.undo_rules.specs.Stack.{Step}
use Rattle.edit_stack.specs.Shown.{Shown}

module _ {C : Type 0} where
  abbrev pub opened : Option (Element C) → List (Step C)
  opened None = []
  opened (Some e) = step_of e ∷ []

  -- the closed elements that can be undone or redone, the first one made first
  abbrev pub kept_elements : Inside C → List (Element C)
  kept_elements s = take s.kept s.elements.items

  -- the number of elements that can be undone or redone, with the open one
  abbrev pub element_count : Inside C → ℕ
  element_count s = s.kept + length (opened s.open_element)

  -- whether the open element, if any, has room for one more change
  abbrev pub may_join : Option (Element C) → Bool
  may_join None = true
  may_join (Some e) = nat_lt (length e.more.items) e.more.capacity

  abbrev pub is_ready : Inside C → Bool
  is_ready s = nat_lt (element_count s) s.elements.capacity && may_join s.open_element

  abbrev pub shown : Inside C → Shown C
  shown s = record {
    stack = record {
      undo = opened s.open_element ++ map step_of (reverse (take s.done (kept_elements s)));
      redo = map step_of (drop s.done (kept_elements s));
      is_open = is_some s.open_element;
    };
    spare = if is_ready s then 1 else 0;
  }

  -- there is room for all elements
  pub record HasRoom (s : Inside C) : Type 0 where
    pub done : s.done ≤ s.kept
    pub kept : s.kept ≤ length s.elements.items
    pub elements : element_count s ≤ s.elements.capacity
    -- while an element is open, nothing can be redone
    pub apart : is_some s.open_element ≡ true → s.kept ≡ s.done
