-- Where the lines of a workload stand, and which numbers they are drawn at.
use Rattle.std.proofs.Common.{◌≡◌, ℕ, zero, suc, ◌+◌, ◌-◌, ◌*◌, ◌<◌, ◌≤◌, min, List, [], ◌++◌, Bool, false, refl, ap, ap₂, subst, sym, ◌∙◌, map, length, length-append, decimal, get_or, codes, arith}
use Rattle.std.specs.Prelude.{replicate}
use Rattle.std.specs.List.{range_with_len}
use Rattle.std.proofs.lemmas.List.{get_or_append_left, get_or-append_right, get_or-replicate, length-replicate}
use Rattle.std.proofs.lemmas.List.FromFn.{get_or-map-range_with_len, length-map-range_with_len}
use Rattle.std.proofs.Math.Numerals.{suc-eq-add-one}
use Rattle.console_run.specs.Workload.{WorkLine, silent, drawn, draw, next_number, number_after, edge_text, edge_line, last_lines, hidden_node, workload}
use Rattle.console_run.specs.Generated.{IsDrawn, IsLine, line_at}

-- ---- places in a list of three parts

three : ℕ → WorkLine → ℕ → (ℕ → WorkLine) → List WorkLine → List WorkLine
three n x m f last = replicate n x ++ (map f (range_with_len 0 m) ++ last)

in_first : (n : ℕ) (x : WorkLine) (m : ℕ) (f : ℕ → WorkLine) (last : List WorkLine) (at : ℕ)
    (d : WorkLine) → at < n → get_or (three n x m f last) at d ≡ x
unfolding three
in_first n x m f last at d h =
    let size : length (replicate n x) ≡ n = length-replicate n x in
    get_or_append_left (replicate n x) (map f (range_with_len 0 m) ++ last) d at
    (omega (arith, size, h))
    ∙ get_or-replicate n at x d h

in_second : (n : ℕ) (x : WorkLine) (m : ℕ) (f : ℕ → WorkLine) (last : List WorkLine) (at : ℕ)
    (d : WorkLine) → n ≤ at → at - n < m → get_or (three n x m f last) at d ≡ f (at - n)
unfolding three
in_second n x m f last at d low high =
    let size : length (map f (range_with_len 0 m)) ≡ m = length-map-range_with_len f 0 m in
    get_or-append_right (replicate n x) (map f (range_with_len 0 m) ++ last) n at d
    (length-replicate n x) low
    ∙ get_or_append_left (map f (range_with_len 0 m)) last d (at - n) (omega (arith, size, high))
    ∙ get_or-map-range_with_len f 0 m (at - n) (at - n) d high (omega arith)

in_third : (n : ℕ) (x : WorkLine) (m : ℕ) (f : ℕ → WorkLine) (last : List WorkLine) (at k : ℕ)
    (d : WorkLine) → n ≤ at → m ≤ at - n → at - n - m ≡ k
    → get_or (three n x m f last) at d ≡ get_or last k d
unfolding three
in_third n x m f last at k d low high e =
    get_or-append_right (replicate n x) (map f (range_with_len 0 m) ++ last) n at d
    (length-replicate n x) low
    ∙ get_or-append_right (map f (range_with_len 0 m)) last m (at - n) d
    (length-map-range_with_len f 0 m) high
    ∙ ap (λ i. get_or last i d) e

length_three : (n : ℕ) (x : WorkLine) (m : ℕ) (f : ℕ → WorkLine) (last : List WorkLine)
    → length (three n x m f last) ≡ n + (m + length last)
unfolding three
length_three n x m f last =
    length-append (replicate n x) (map f (range_with_len 0 m) ++ last)
    ∙ ap₂ (λ (a b : ℕ). a + b) (length-replicate n x)
    (length-append (map f (range_with_len 0 m)) last
    ∙ ap (λ (a : ℕ). a + length last) (length-map-range_with_len f 0 m))

parts : (seed : ℕ) → workload seed
    ≡ three 400 (silent (codes "node")) 1600 (edge_line seed) (last_lines (hidden_node seed))
unfolding three workload
parts seed = refl

-- the workload's length
pub length-workload : (seed : ℕ) → length (workload seed) ≡ 2010
length-workload seed = ap length (parts seed)
    ∙ length_three 400 (silent (codes "node")) 1600 (edge_line seed) (last_lines (hidden_node seed))

-- ---- numbers

-- one more draw
number_more : (seed k number : ℕ) → number ≡ number_after seed k
    → next_number number ≡ number_after seed (k + 1)
unfolding number_after
number_more seed k number e = ap next_number e ∙ ap (number_after seed) (suc-eq-add-one k)

-- the number at which a line begins
at_number : (seed at number k : ℕ) → IsDrawn seed at number → at ≤ 2002
    → 3 * min (at - 400) 1600 ≡ k → number ≡ number_after seed k
at_number seed at number k drawn within e = drawn within ∙ ap (number_after seed) e

-- and the next one
to_number : (seed at number k : ℕ) → number ≡ number_after seed k
    → (at ≤ 2002 → k ≡ 3 * min (at - 400) 1600) → IsDrawn seed at number
to_number seed at number k e same = λ within. e ∙ ap (number_after seed) (same within)

-- ---- the lines

pub node-line : (seed at number : ℕ) (text : List ℕ) → at < 400 → text ≡ codes "node"
    → IsDrawn seed at number → IsLine (line_at seed at) text false
node-line seed at number text h t drawn =
    let is : line_at seed at ≡ silent (codes "node") =
    ap (λ lines. get_or lines at (silent [])) (parts seed)
    ∙ in_first 400 (silent (codes "node")) 1600 (edge_line seed) (last_lines (hidden_node seed)) at
    (silent []) h in
    subst (λ line. IsLine line text false) (sym is) (record { text_is = t; query_is = refl })

pub edge-line : (seed at number : ℕ) (text : List ℕ) → 400 ≤ at → at < 2000
    → text ≡ edge_text (drawn (next_number number) 400 + 1)
    (drawn (next_number (next_number number)) 400 + 1)
    (drawn (next_number (next_number (next_number number))) 1000)
    → IsDrawn seed at number → IsLine (line_at seed at) text false
edge-line seed at number text low high t drawn_is =
    let i = at - 400 in
    let first : number ≡ number_after seed (3 * i) =
    at_number seed at number (3 * i) drawn_is (omega (arith, high)) (omega (arith, low, high)) in
    let second : next_number number ≡ number_after seed (3 * i + 1) =
    number_more seed (3 * i) number first in
    let third : next_number (next_number number) ≡ number_after seed (3 * i + 1 + 1) =
    number_more seed (3 * i + 1) (next_number number) second in
    let fourth : next_number (next_number (next_number number))
    ≡ number_after seed (3 * i + 2 + 1) =
    number_more seed (3 * i + 1 + 1) (next_number (next_number number)) third
    ∙ ap (number_after seed) (omega arith) in
    let is : line_at seed at ≡ edge_line seed i =
    ap (λ lines. get_or lines at (silent [])) (parts seed)
    ∙ in_second 400 (silent (codes "node")) 1600 (edge_line seed) (last_lines (hidden_node seed)) at
    (silent []) low (omega (arith, low, high)) in
    let made : text ≡ (edge_line seed i).text = t
    ∙ ap (λ x. edge_text (drawn x 400 + 1) (drawn (next_number (next_number number)) 400 + 1)
    (drawn (next_number (next_number (next_number number))) 1000)) second
    ∙ ap (λ x. edge_text (draw seed (3 * i) 400 + 1) (drawn x 400 + 1)
    (drawn (next_number (next_number (next_number number))) 1000)) third
    ∙ ap (λ x. edge_text (draw seed (3 * i) 400 + 1) (draw seed (3 * i + 1) 400 + 1)
    (drawn x 1000)) fourth in
    subst (λ line. IsLine line text false) (sym is) (record { text_is = made; query_is = refl })

pub edge-drawn : (seed at number new : ℕ) → 400 ≤ at → at < 2000
    → new ≡ next_number (next_number (next_number number)) → IsDrawn seed at number
    → IsDrawn seed (at + 1) new
edge-drawn seed at number new low high e drawn_is =
    let i = at - 400 in
    let first : number ≡ number_after seed (3 * i) =
    at_number seed at number (3 * i) drawn_is (omega (arith, high)) (omega (arith, low, high)) in
    to_number seed (at + 1) new (3 * i + 1 + 1 + 1)
    (e ∙ number_more seed (3 * i + 1 + 1) (next_number (next_number number))
    (number_more seed (3 * i + 1) (next_number number) (number_more seed (3 * i) number first)))
    (λ within. omega (arith, low, high))

-- only one of the last lines is about the hidden node
any_hidden : (a b at : ℕ) (d : WorkLine) → (at ≡ 2 → a ≡ b)
    → get_or (last_lines a) at d ≡ get_or (last_lines b) at d
any_hidden a b zero d same = refl
any_hidden a b (suc zero) d same = refl
any_hidden a b (suc (suc zero)) d same =
    ap (λ h. silent (codes "hide_node n" ++ decimal h)) (same refl)
any_hidden a b (suc (suc (suc at))) d same = refl

pub last-line : (seed at number : ℕ) (text : List ℕ) (is_query : Bool) → 2000 ≤ at
    → IsLine (get_or (last_lines (drawn (next_number number) 398 + 3)) (at - 2000) (silent [])) text
    is_query
    → IsDrawn seed at number → IsLine (line_at seed at) text is_query
last-line seed at number text is_query low line drawn_is =
    let is : line_at seed at ≡ get_or (last_lines (hidden_node seed)) (at - 2000) (silent []) =
    ap (λ lines. get_or lines at (silent [])) (parts seed)
    ∙ in_third 400 (silent (codes "node")) 1600 (edge_line seed) (last_lines (hidden_node seed)) at
    (at - 2000) (silent []) (omega (arith, low)) (omega (arith, low)) (omega (arith, low)) in
    let same : get_or (last_lines (drawn (next_number number) 398 + 3)) (at - 2000) (silent [])
    ≡ get_or (last_lines (hidden_node seed)) (at - 2000) (silent []) =
    any_hidden (drawn (next_number number) 398 + 3) (hidden_node seed) (at - 2000) (silent [])
    (λ two. ap (λ x. drawn x 398 + 3) (number_more seed 4800 number
    (at_number seed at number 4800 drawn_is (omega (arith, two, low))
    (omega (arith, two, low))))) in
    subst (λ line. IsLine line text is_query) (same ∙ sym is) line
