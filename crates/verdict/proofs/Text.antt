-- The text of the error and the end of a line are the two lines of a plan that is refused. Assumes nothing.
use Rattle.std.proofs.Common.{◌≡◌, ◌++◌, codes, refl, append_assoc}
use Rattle.verdict.specs.Text.{refusal_line, failing_line, unsound_text, unsound_message}
use Rattle.verdict.specs.Verdict.{Told}

pub message_lines : (t : Told) → unsound_message t ++ codes "\n" ≡ unsound_text t
unfolding unsound_message refusal_line failing_line
message_lines t = simp append_assoc refl
