-- The first 2,505 bytes of a file tell as much as the whole, since a plan's fields and padding end before the last of them. Assumes nothing.
use Rattle.std.proofs.Common.{◌≡◌, ℕ, zero, suc, ◌+◌, ◌-◌, ◌*◌, ◌<◌, ◌≤◌, List, [], ◌∷◌, ◌++◌, length, take, drop, IfOk, Ok, Err, sym, refl, ap, ◌∙◌, ⊎_elim, arith, lit≤}
use lib.Seq.{take-append-add}
use Rattle.std.proofs.lemmas.List.{take_all, take-take}
use Rattle.std.proofs.lemmas.Bool.{cases_lt}
use Rattle.std.proofs.lemmas.Bool.Decides.{nat_tests}
use Rattle.fields.specs.Bits.{binary, bits}
use Rattle.fields.specs.Layout.{Reading}
use Rattle.plan.specs.Plan.{Plan}
use Rattle.plan.specs.File.{plan_layout}
use Rattle.fields.specs.Padding.{byte_end, stray}
use Rattle.plan.specs.Decode.{ended, closed, decode}
use Rattle.fields.proofs.Numbers.{length_binary}
use Rattle.plan.proofs.Reach.{Any, drop_cut}
use Rattle.plan.proofs.PlanReach.{plan_reach}

bits_take : (n : ℕ) (bytes : List ℕ) → bits (take n bytes) ≡ take (8 * n) (bits bytes)
unfolding bits
bits_take zero bytes = refl
bits_take (suc n) [] = sym (take_all (8 * suc n) [] (omega arith))
bits_take (suc n) (byte ∷ bytes) =
    let count : 8 * suc n ≡ length (binary 8 byte) + 8 * n = omega (arith, length_binary 8 byte) in
    ap (λ more. binary 8 byte ++ more) (bits_take n bytes) ∙ sym (ap (λ m. take m (binary 8 byte ++ bits bytes)) count ∙ take-append-add (binary 8 byte) (bits bytes) (8 * n))

-- no bit after the end is looked at
stray_take : (end n : ℕ) (bs : List ℕ) (at : ℕ) → at ≤ end → end < at + n → stray end (take n bs) at ≡ stray end bs at
unfolding stray
stray_take end zero bs at h before = absurd (omega arith)
stray_take end (suc n) [] at h before = refl
stray_take end (suc n) (b ∷ bs) at h before =
    ⊎_elim
    (λ inside. let later = stray_take end n bs (at + 1) (omega arith) (omega arith) in cc)
    (λ past. grind (arith, nat_tests))
    (cases_lt at end)

closed_take : (n : ℕ) (bs : List ℕ) (r : Reading Plan) → 20032 < n → IfOk r (λ x. Any x.0 × (x.1 ≤ 20025)) → closed (take n bs) r ≡ closed bs r
closed_take n bs (Ok (p, end)) long early =
    let rest = ap (λ xs. stray (byte_end end) xs end) (drop_cut end n bs (omega (arith, early.1))) in
    let found = stray_take (byte_end end) (n - end) (drop end bs) end (omega arith) (omega (arith, early.1)) in
    ap (ended p) (rest ∙ found)
closed_take n bs (Err t) long early = refl

pub front : (bytes : List ℕ) → decode (take 2505 bytes) ≡ decode bytes
unfolding decode
front bytes =
    let bs = bits bytes in
    let reach = plan_reach {cut = 8 * 2505} (omega arith) in
    ap (λ xs. closed xs (plan_layout.read xs 0)) (bits_take 2505 bytes)
    ∙ ap (closed (take (8 * 2505) bs)) (reach.same bs 0 (omega arith))
    ∙ closed_take (8 * 2505) bs (plan_layout.read bs 0) (omega arith) (reach.ends bs 0 (omega arith))

-- what a bit reader sees of a file
abbrev pub seen : List ℕ → List ℕ
seen bytes = take 65536 bytes

pub front_seen : (bytes : List ℕ) → decode (seen bytes) ≡ decode bytes
front_seen bytes = sym (front (seen bytes)) ∙ ap decode (take-take 2505 65536 bytes (lit≤ tt)) ∙ front bytes
