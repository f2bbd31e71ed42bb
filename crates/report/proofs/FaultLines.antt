-- The lines of a fault, and the byte that ends the second. Assumes nothing.
use Rattle.std.proofs.Common.{◌≡◌, ◌++◌, append_assoc, refl}
use Rattle.std.specs.Prelude.{codes}
use Rattle.fields.specs.Faults.{Told}
use Rattle.fields.specs.FaultText.{owner_words, fault_words, fault_text}

pub fault_lines : (t : Told) → fault_words t ++ codes "\n" ≡ fault_text t
unfolding fault_words owner_words
fault_lines t = simp append_assoc refl
