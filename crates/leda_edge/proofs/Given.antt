-- A buffer that is given the next bytes of a list.
use Rattle.std.proofs.Common.{◌≡◌, ℕ, ◌+◌, ◌-◌, ◌<◌, ◌≤◌, min, List, [], ◌++◌, length, take, drop, sym, ap, ◌∙◌, arith}
use Rattle.std.proofs.lemmas.Grind.{common_steps}
use Rattle.std.proofs.lemmas.List.{take_rest, drop-drop, take-append-drop}

-- the bytes that were copied stand at the front of the buffer
front_is : (rest buf : List ℕ) (n : ℕ) → n ≤ length rest
    → take n (take n rest ++ drop n buf) ≡ take n rest
front_is rest buf n within = grind (arith, common_steps)

-- they and what is left then are what was left before
split_at : (bytes buf : List ℕ) (at n : ℕ) → n ≤ length (drop at bytes)
    → drop at bytes ≡ take n (take n (drop at bytes) ++ drop n buf) ++ drop (at + n) bytes
split_at bytes buf at n within =
    let rest : List ℕ = drop at bytes in
    let joined : take n rest ++ drop (at + n) bytes
    ≡ rest = ap (λ tail. take n rest ++ tail) (sym (drop-drop n at bytes))
    ∙ take-append-drop n rest in
    sym (ap (λ front. front ++ drop (at + n) bytes) (front_is rest buf n within) ∙ joined)

-- where a buffer that has room is given nothing, nothing is left
ends : (bytes buf : List ℕ) (at n : ℕ) → n ≡ min (length (drop at bytes)) (length buf) → n ≡ 0
    → 0 < length (take n (drop at bytes) ++ drop n buf) → drop (at + n) bytes ≡ []
ends bytes buf at n count none room = grind (arith, common_steps)

-- what a read of a list does to what is left of it
pub gives_next : (bytes all buf copied : List ℕ) (at n : ℕ) → all ≡ bytes
    → n ≡ min (length (take (length all - at) (drop at all))) (length buf)
    → copied ≡ take n (take (length all - at) (drop at all))
    → (drop at bytes ≡ take n (copied ++ drop n buf) ++ drop (at + n) bytes) × (n ≡ 0
    → 0 < length (copied ++ drop n buf) → drop (at + n) bytes ≡ [])
gives_next bytes all buf copied at n same count front =
    let rest_is : take (length all - at) (drop at all) ≡ drop at bytes = take_rest all at
    ∙ ap (λ l. drop at l) same in
    let count_is : n ≡ min (length (drop at bytes)) (length buf) = count
    ∙ ap (λ l. min (length l) (length buf)) rest_is in
    let copied_is : copied ≡ take n (drop at bytes) = front ∙ ap (λ l. take n l) rest_is in
    let within : n ≤ length (drop at bytes) = omega (arith, count_is) in
    rw copied_is (
      split_at bytes buf at n within,
      λ none room. ends bytes buf at n count_is none
          room,
    )
