-- A text that is made of a part for each number, one number more at a time. Assumes nothing.
use Rattle.std.proofs.Common.{◌≡◌, ℕ, ◌+◌, List, [], ◌∷◌, ◌++◌, sym, ap, ◌∙◌, zero-add}
use Rattle.std.specs.Fmt.{HasWritten}
use Rattle.std.specs.List.{range_with_len, flat_map}
use Rattle.std.specs.declared.fmt.Formatter.{Formatter}
use Rattle.std.proofs.Output.{has_written_append, has_written_of_eq}
use Rattle.std.proofs.lemmas.List.FromFn.{map-range_with_len_more}
use Rattle.std.proofs.lemmas.List.{map-id, flat_map_more}

-- one part more
parts_more : (part : ℕ → List ℕ) (n : ℕ) → flat_map part (range_with_len 0 n) ++ part n ≡ flat_map part (range_with_len 0 (n + 1))
parts_more part n =
    let more = sym (map-id (range_with_len 0 (n + 1))) ∙ map-range_with_len_more (λ k. k) 0 n n (zero-add n) ∙ ap (λ ks. ks ++ n ∷ []) (map-id (range_with_len 0 n)) in
    flat_map_more part [] (range_with_len 0 n) n ∙ sym (ap (flat_map part) more)

-- the next part is written after the parts so far
pub part_written : {W : Type 0} (took : W → List ℕ → W → Type 0) (f g h : Formatter W) (part : ℕ → List ℕ) (n : ℕ) → HasWritten took f (flat_map part (range_with_len 0 n)) g → HasWritten took g (part n) h → HasWritten took f (flat_map part (range_with_len 0 (n + 1))) h
part_written took f g h part n so_far next = has_written_of_eq took f _ _ h (parts_more part n) (has_written_append took f _ g _ h so_far next)
