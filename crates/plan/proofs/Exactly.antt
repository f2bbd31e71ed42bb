-- A file is decoded as a plan exactly when it holds that plan. Assumes nothing.
use Rattle.std.proofs.Common.{◌≡◌, ℕ, zero, suc, ◌+◌, ◌-◌, ◌<◌, ◌≤◌, List, [], ◌∷◌, ◌++◌, length, drop, replicate, IfOk, Some, None, Ok, Err, Option, sym, refl, ap, ◌∙◌, zero-add, arith, length-append, length-drop}
use Rattle.std.specs.Int.Digits.{AllBelowBase}
use Rattle.std.proofs.ByRecursion.{All-drop}
use Rattle.std.proofs.lemmas.List.{drop_at}
use Rattle.std.proofs.lemmas.Result.{IfOk-at_ok}
use Rattle.std.proofs.lemmas.Bool.Decides.{nat_tests}
use Rattle.fields.specs.Bits.{bits}
use Rattle.fields.specs.Layout.{Reading}
use Rattle.plan.specs.Plan.{Plan, Within}
use Rattle.plan.specs.File.{plan_layout}
use Rattle.fields.specs.Padding.{byte_end, stray}
use Rattle.plan.specs.Decode.{ended, closed, decode, laid}
use Rattle.plan.specs.Law.{Holds}
use Rattle.fields.proofs.Numbers.{length_bits, under_bits}
use Rattle.plan.proofs.Lawful.{Stands, Found}
use Rattle.plan.proofs.PlanLawful.{plan_lawful}

-- a file is decoded as a plan exactly when it holds that plan
abbrev pub Exactly : List ℕ → Type 0
Exactly bytes = ((p : Plan) → decode bytes ≡ Ok p → Holds bytes p) × ((p : Plan) → Holds bytes p → decode bytes ≡ Ok p)

-- no bit is astray just where all are 0 and lie before the end
zeros_from_stray : (end : ℕ) (bs : List ℕ) (at : ℕ) → AllBelowBase 2 bs → at ≤ end → stray end bs at ≡ None → (bs ≡ replicate (length bs) 0) × (at + length bs ≤ end)
unfolding stray
zeros_from_stray end [] at u h e = (refl, omega arith)
zeros_from_stray end (b ∷ bs) at u h e =
    let zero_bit : b ≡ 0 = grind (arith, nat_tests, u.0) in
    let before : at < end = grind (arith, nat_tests) in
    let none_later : stray end bs (at + 1) ≡ None = grind (arith, nat_tests) in
    let later = zeros_from_stray end bs (at + 1) u.1 (omega arith) none_later in
    (cc, omega (arith, later.1))

stray_zeros : (end n at : ℕ) → at + n ≤ end → stray end (replicate n 0) at ≡ None
unfolding stray
stray_zeros end zero at h = refl
stray_zeros end (suc n) at h = let later = stray_zeros end n (at + 1) (omega arith) in grind (arith, nat_tests)

ended_made : (H : Plan → Type 0) (p : Plan) (o : Option ℕ) → (o ≡ None → H p) → IfOk (ended p o) H
ended_made H p None h = h refl
ended_made H p (Some at) h = tt

module _ (bytes : List ℕ) where
  -- a file is of whole bytes, so no bit astray means 0 bits just to the end of the byte
  padding_from_stray : (at : ℕ) → at ≤ length (bits bytes) → stray (byte_end at) (drop at (bits bytes)) at ≡ None → drop at (bits bytes) ≡ replicate (byte_end at - at) 0
  padding_from_stray at h e =
      let rest = drop at (bits bytes) in
      let zeros = zeros_from_stray (byte_end at) rest at (All-drop (λ b. b < 2) at (bits bytes) (under_bits bytes)) (omega arith) e in
      let count : length rest ≡ byte_end at - at = omega (arith, length-drop at (bits bytes), length_bits bytes) in
      zeros.0 ∙ ap (λ n. replicate n 0) count

  laid_from_stray : (p : Plan) (end : ℕ) → Stands (bits bytes) 0 (plan_layout.write p) end → stray (byte_end end) (drop end (bits bytes)) end ≡ None → bits bytes ≡ laid p
  unfolding laid
  laid_from_stray p end s e =
      let fields = plan_layout.write p in
      s.here ∙ ap (λ r. fields ++ r) (padding_from_stray end s.inside e) ∙ ap (λ n. fields ++ replicate (byte_end n - n) 0) (s.ends ∙ zero-add (length fields))

  closed_made : (r : Reading Plan) → IfOk r (Found plan_layout Within (bits bytes) 0) → IfOk (closed (bits bytes) r) (Holds bytes)
  closed_made (Ok (p, end)) h = ended_made _ p (stray (byte_end end) (drop end (bits bytes)) end) (λ e. (h.0, laid_from_stray p end h.1 e))
  closed_made (Err t) h = tt

  holds_from_decode : IfOk (decode bytes) (Holds bytes)
  unfolding decode
  holds_from_decode = closed_made (plan_layout.read (bits bytes) 0) (plan_lawful.sound (bits bytes) 0 (under_bits bytes) (omega arith))

  decode_from_holds : (p : Plan) → Holds bytes p → decode bytes ≡ Ok p
  unfolding decode laid
  decode_from_holds p (within, is) =
      let fields = plan_layout.write p in
      let end = length fields in
      let zeros : List ℕ = replicate (byte_end end - end) 0 in
      let rest = ap (drop end) is ∙ drop_at fields zeros end refl in
      let inside : end ≤ length (bits bytes) = omega (arith, simp length-append at (ap length is)) in
      let stands : Stands (bits bytes) 0 fields end = record { here = is ∙ ap (λ r. fields ++ r) (sym rest); ends = omega arith; inside = inside } in
      let none = ap (λ r. stray (byte_end end) r end) rest ∙ stray_zeros (byte_end end) (byte_end end - end) end (omega arith) in
      ap (closed (bits bytes)) (plan_lawful.complete (bits bytes) 0 p end within stands) ∙ ap (ended p) none

  pub exactly : Exactly bytes
  exactly = (λ p e. IfOk-at_ok (Holds bytes) e holds_from_decode, decode_from_holds)
