use Rattle.std.proofs.Common.{refl, ap, ◌∙◌, ◌∷◌, [], Some}
use Rattle.mirror_rules.specs.Mirrors.{MirrorState}
use Rattle.script_lines.specs.Replies.{ok_reply}
use Rattle.sessions.proofs.MirrorLemmas.{tells_mirror}
use Rattle.sessions.proofs.mirror_replies.begin_mirror.Goals as goal

pub returns : goal.returns
returns c =
    tells_mirror _ _ _ _
    (c.ok.ensures ∙ ap (λ v. ok_reply (v ∷ [])) (c.version-version.ensures ∙ ap (λ (m : MirrorState). m.version) c.in_ok-mirror.ensures))
    (ap Some c.in_ok-mirror.ensures) refl
