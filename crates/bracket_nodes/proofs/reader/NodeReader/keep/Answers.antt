use Rattle.std.proofs.Common.{Bool, true, false, cond, List, [], ◌∷◌, ◌++◌, All}
use Rattle.std.proofs.lemmas.List.Elements.{All-push}
use Rattle.bracket_nodes.specs.Paths.{IsOnPath}
use Rattle.bracket_nodes.specs.Seen.{seen_tree}
use Rattle.bracket_nodes.proofs.reader.NodeReader.keep.Goals as goal

-- whether or not there is memory for it
pushed : {X : Type 0} (P : X → Type 0) (b : Bool) (xs : List X) (x : X) → All P xs → P x → All P (cond b (xs ++ x ∷ []) xs)
pushed P true xs x all here = All-push P xs x all here
pushed P false xs x all here = all

pub invariant_of-self : goal.invariant_of-self
invariant_of-self c =
    let root = seen_tree c.self.inside.root in
    rw c.push.ensures.items
    (c.self.invariant.0, pushed (IsOnPath root) _ c.self.inside.path.items c.args.here c.self.invariant.1 (rw c.self.view_is c.requires))
