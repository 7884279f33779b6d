use Rattle.std.proofs.Common.{◌≡◌, ◌-◌, ◌<◌, ◌≤◌, ◌++◌, length, take, drop}
use Rattle.std.specs.List.{concat}
use Rattle.text_buffer.proofs.runs.Runs.read_into.Given as goal

abbrev pub invariant-loop-done : goal.invariant-loop-done
invariant-loop-done l = record {
  size : length l.out ≡ length l.fn.out;
  within : l.done ≤ length l.fn.out;
  there : l.done ≤ length (concat l.fn.self.left);
  read : l.out ≡ take l.done (concat l.fn.self.left) ++ drop l.done l.fn.out;
  rest : l.done < length l.fn.out → concat l.self.left ≡ drop l.done (concat l.fn.self.left);
}

abbrev pub decreases-loop-done : goal.decreases-loop-done
decreases-loop-done l = length l.initial.out - l.done
