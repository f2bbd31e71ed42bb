-- The cells of a row. Assumes nothing.
use Rattle.std.proofs.Common.{◌≡◌, ℕ, ◌-◌, ◌^◌, List, min, suc, map, take, drop, decimal, length, refl, sym, append-nil, arith}
use Rattle.std.specs.Fmt.{styled_decimal, padded_integral, format_spec, char_count}
use Rattle.std.proofs.Math.Utf8.{encode}
use Rattle.std.specs.List.{concat, remove, flat_map, range_with_len}
use Rattle.std.proofs.lemmas.List.{take-map, drop-map, map-append, take_min}
use Rattle.std.proofs.lemmas.List.FromFn.{take-map-range_with_len}
use Rattle.std.proofs.lemmas.List.Concat.{concat_is}
use Rattle.std.proofs.lemmas.List.Folds.{flat_map-map}
use Rattle.report.specs.PlanText.{cell, others, old_mode}

-- what a hole of 6 columns writes of a number
pub number_cell : (n : ℕ) → styled_decimal (format_spec 32 3 0 6 (2 ^ 64 - 1)) n ≡ cell (decimal n)
unfolding padded_integral char_count encode
number_cell n =
    let width = 6 - length (decimal n) in
    let before : width - 0 - 0 ≡ width = omega arith in
    let after : width - width ≡ 0 = omega arith in
    rw (before, after) (simp append-nil refl)

-- the cells of all names but number j
cells-map : {A : Type 0} (name : A → List ℕ) (names : List A) (j : ℕ) → concat (remove (map name names) j) ≡ flat_map name (remove names j)
cells-map name names j =
    rw (concat_is (remove (map name names) j), take-map name j names, drop-map name (suc j) names, ← map-append name (take j names) (drop (suc j) names))
    (flat_map-map (λ t. t) name (remove names j))

-- the cells of the first n names but number j
pub named_cells : {A : Type 0} (name : A → List ℕ) (names : List A) (n j : ℕ) → flat_map name (remove (take n names) j) ≡ concat (remove (take n (map name names)) j)
named_cells name names n j = rw (take-map name n names) (sym (cells-map name (take n names) j))

-- those of the 8 enabling deadlines
pub head_cells : (n j : ℕ) → concat (remove (take n (map (λ i. cell (old_mode i)) (range_with_len 0 8))) j) ≡ others old_mode j (range_with_len 0 (min n 8))
unfolding others
head_cells n j =
    let in_cell : ℕ → List ℕ = λ i. cell (old_mode i) in
    rw (← take_min n (map in_cell (range_with_len 0 8)), take-map-range_with_len in_cell 0 8 (min n 8) (omega arith))
    (cells-map in_cell (range_with_len 0 (min n 8)) j)
