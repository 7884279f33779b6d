-- Worked examples of the definitions.
use Rattle.std.specs.Prelude.{◌≡◌, ℕ, List, [], ◌∷◌, codes, false, None, refl}
use Rattle.text_rules.specs.declared.Op.{Op}
use Rattle.batch_rules.specs.Events.{EventState}
use Rattle.mirror_rules.specs.Mirrors.{MirrorState, old, gap, misfit, followed, taken}
use Rattle.mirror_rules.specs.Following.{followed_by}

abbrev insert : ℕ → List ℕ → Op
insert at text = record { span = record { start = at; end = at }; text = text; force = false }

-- `x` was inserted before `ab`, and then `y` at the end
abbrev first : EventState
first = record { from = 1; batches = (insert 0 (codes "x") ∷ []) ∷ [] }

abbrev second : EventState
second = record { from = 2; batches = (insert 3 (codes "y") ∷ []) ∷ [] }

abbrev mirror : ℕ → List ℕ → MirrorState
mirror version units = record { version = version; units = units }

the_event_of_its_version : taken (mirror 1 (codes "ab")) first ≡ followed (mirror 2 (codes "xab"))
the_event_of_its_version = refl

one_is_missing : taken (mirror 1 (codes "ab")) second ≡ gap 1 2
one_is_missing = refl

it_came_before : taken (mirror 2 (codes "xab")) first ≡ old
it_came_before = refl

it_is_of_another_text : taken (mirror 2 (codes "a")) second ≡ misfit 1
it_is_of_another_text = refl

-- the second, the first twice, and the second again
out_of_order_and_repeated : followed_by (mirror 1 (codes "ab")) (second ∷ first ∷ first ∷ second ∷ [])
    ≡ record { mirror = mirror 3 (codes "xaby"); tally = record { applied = 2; old = 1; gaps = 1 }; ended = None }
out_of_order_and_repeated = refl
