-- Laws of what the functions put: of each loop's turn, what is left after it, and at the end that nothing is; of a number, a data line and
-- an immediate, that their parts are the whole; of a span, that it may be cut to the bytes that there are. Assumes nothing.
use Prim.Native.Nat.{ℕ, ◌+◌, ◌*◌, ◌-◌, ◌/◌, ◌%◌, ◌≤◌, ◌<◌, ◌^◌, min}
use native.Mathlib.Omega.{arith}
use native.Mathlib.Numerals.{add-one}
use mathlib.Core.Path.{◌≡◌, refl, sym, ap, ◌∙◌}
use mathlib.Core.Bool.{Bool, true, false}
use mathlib.Core.List.{List, [], ◌∷◌, ◌++◌, append-nil}
use lib.ListN.{length, get_or, take, drop, drop_of_length-le}
use lib.Seq.{slice, drop-cons, slice-cons, length-slice, take_all, length-take-le, drop_at, take-add, take-take, drop-drop}
use Rattle.std.proofs.lemmas.List.{drop-take}
use lib.Dec.{ltb, eqb}
use borrow.Author.Tests.{lt-ltb, le-ltb, ltb-true, ltb-false, ne_eqb}
use Rattle.lines.specs.Put.{immediate_at, placed_at, first_placed}
use Rattle.opcodes.specs.Text.{as_bytes}
use Rattle.evm.specs.YellowPaper.{instruction_length}
use Rattle.evm.specs.Walk.{walk}
use Rattle.evm.proofs.Opcodes.{length_bounds}
use Rattle.evm.proofs.Walks.{walk_next, walk_none}
use Rattle.lines.specs.Lines.{hex_digit, hex_byte, hex, cut_text, immediate_text, instruction_line, instruction_lines, ops_lines}
use Rattle.lines.specs.Sink.{added}
use Rattle.lines.specs.declared.text.TextSink.{TextSink}
use Rattle.lines.proofs.Sinks.{then, added_is, turn, done}

-- ---- bytes in hex, from i on

-- two characters a byte
pub hex_length : (bs : List ℕ) → length (hex bs) ≡ 2 * length bs
unfolding hex
hex_length [] = refl
hex_length (b ∷ bs) = omega (arith, hex_length bs)

-- two digits, as the code has them
pub hex_two : (s : TextSink) {t u : TextSink} {high low : ℕ} (b : ℕ) → length s.text.now < 2 ^ 64 → high ≡ hex_digit (b / 16) → low ≡ hex_digit (b % 16)
    → t ≡ added s (high ∷ []) → u ≡ added t (low ∷ []) → u ≡ added s (hex_byte b)
hex_two s b short e f p q = then s _ _ short (added_is s (ap (λ (d : ℕ). d ∷ []) e) p) (added_is _ (ap (λ (d : ℕ). d ∷ []) f) q)

module _ (r : TextSink) (whole : List ℕ) (s : TextSink) (bs : List ℕ) (i : ℕ) where
  -- a turn adds the first byte
  pub hex_turn : {t : TextSink} → length r.text.now < 2 ^ 64 → i < length bs → added s (hex (drop i bs)) ≡ added r whole → t ≡ added s (hex_byte (get_or bs i 0)) → added t (hex (drop (i + 1) bs)) ≡ added r whole
  unfolding hex
  hex_turn short h left p = rw (add-one i) (turn r whole s _ _ short (ap hex (drop-cons bs i 0 h)) left p)

  -- none is left
  pub hex_done : s.place < 2 ^ 64 → length bs ≤ i → added s (hex (drop i bs)) ≡ added r whole → s ≡ added r whole
  unfolding hex
  hex_done small h left = done r whole s small (ap hex (drop_of_length-le bs h)) left

-- a part as the code has it, from s to e
pub part_is : (bs : List ℕ) (s e : ℕ) → s ≤ e → take (e - s) (drop s bs) ≡ slice s e bs
part_is bs s e h =
    let there : s + (e - s) ≡ e = omega arith in
    sym (drop-take s (e - s) bs) ∙ ap (λ (k : ℕ). slice s k bs) there

-- ---- a span cut to the bytes that there are, as the code has its ends

-- cut at the end
end_within : (bs : List ℕ) (s e : ℕ) → slice s (min e (length bs)) bs ≡ slice s e bs
end_within bs s e = ap (drop s) (go (ltb e (length bs)) refl)
  where
    n : ℕ
    n = min e (length bs)

    go : (b : Bool) → ltb e (length bs) ≡ b → take n bs ≡ take e bs
    go true t =
        let same : n ≡ e = omega (arith, ltb-true e (length bs) t) in
        ap (λ (k : ℕ). take k bs) same
    go false t =
        let past : length bs ≤ e = ltb-false e (length bs) t in
        take_all n bs (omega arith) ∙ sym (take_all e bs past)

-- and at the start
start_within : (bs : List ℕ) (s e : ℕ) → e ≤ length bs → slice (min s e) e bs ≡ slice s e bs
start_within bs s e h = go (ltb s e) refl
  where
    n : ℕ
    n = min s e

    l : length (take e bs) ≡ e
    l = length-take-le e bs h

    go : (b : Bool) → ltb s e ≡ b → slice n e bs ≡ slice s e bs
    go true t =
        let same : n ≡ s = omega (arith, ltb-true s e t) in
        ap (λ (j : ℕ). slice j e bs) same
    go false t =
        let past : e ≤ s = ltb-false s e t in
        let first : length (take e bs) ≤ n = omega (arith, l) in
        let second : length (take e bs) ≤ s = omega (arith, l) in
        drop_of_length-le (take e bs) first ∙ sym (drop_of_length-le (take e bs) second)

-- the bytes of a span whose end was cut to b, or also its start to a, and how many they are
module _ (bs : List ℕ) (s e : ℕ) {b : ℕ} (end_is : b ≡ min e (length bs)) where
  pub cut_end : slice s b bs ≡ slice s e bs
  cut_end = ap (λ (k : ℕ). slice s k bs) end_is ∙ end_within bs s e

  pub cut_part : {a : ℕ} → a ≡ min s b → slice a b bs ≡ slice s e bs
  cut_part start_is = ap (λ (k : ℕ). slice k b bs) start_is ∙ start_within bs s b (omega arith) ∙ cut_end

  pub cut_count : {a : ℕ} → a ≡ min s b → length (slice s e bs) ≡ b - a
  cut_count {a} start_is = sym (ap length (cut_part start_is)) ∙ length-slice a b bs (omega arith)

-- the first n elements of a part
take_slice : (bs : List ℕ) (n s e : ℕ) → s + n ≤ e → e ≤ length bs → take n (slice s e bs) ≡ slice s (s + n) bs
take_slice bs n s e h k =
    let l : List ℕ = take e bs in
    let a : length (take s l) ≡ s = length-take-le s l (rw (length-take-le e bs k) (omega arith)) in
    sym (drop_at (take s l) (take n (drop s l)) s a) ∙ ap (drop s) (sym (take-add s n l) ∙ take-take (s + n) e bs h)

-- ---- an immediate of n bytes, where the rest of the section is r

module _ (n : ℕ) (r : List ℕ) (some : 0 < n) where
  -- cut: the rest is shorter
  pub immediate_short : length r < n → as_bytes " 0x" ++ hex r ++ as_bytes " (truncated)" ≡ immediate_text n (take n r)
  unfolding immediate_text cut_text
  immediate_short h =
      let a : take n r ≡ r = take_all n r (omega arith) in
      let z : eqb n 0 ≡ false = ne_eqb n 0 (omega arith) in
      let t : ltb (length r) n ≡ true = lt-ltb (length r) n h in
      rw (a, z, t)

  -- whole
  pub immediate_full : n ≤ length r → as_bytes " 0x" ++ hex (take n r) ≡ immediate_text n (take n r)
  unfolding immediate_text cut_text
  immediate_full h =
      let l : length (take n r) ≡ n = length-take-le n r h in
      let z : eqb n 0 ≡ false = ne_eqb n 0 (omega arith) in
      let t : ltb n n ≡ false = le-ltb n n (omega arith) in
      rw (l, z, t, append-nil)

-- the same, from s on in a run that ends at e
module _ (bs : List ℕ) (n s e : ℕ) (some : 0 < n) (ordered : s ≤ e) (within : e ≤ length bs) where
  run_length : length (slice s e bs) ≡ e - s
  run_length = length-slice s e bs within

  pub immediate_cut : e - s < n → as_bytes " 0x" ++ hex (slice s e bs) ++ as_bytes " (truncated)" ≡ immediate_at bs n s e
  immediate_cut h = immediate_short n (slice s e bs) some (omega (arith, run_length))

  pub immediate_whole : n ≤ e - s → as_bytes " 0x" ++ hex (slice s (s + n) bs) ≡ immediate_at bs n s e
  immediate_whole h =
      let a : take n (slice s e bs) ≡ slice s (s + n) bs = take_slice bs n s e (omega arith) within in
      rw (← a) (immediate_full n (slice s e bs) some (omega (arith, run_length)))

-- an opcode without one
pub immediate_none : (n : ℕ) (x : List ℕ) → n ≡ 0 → [] ≡ immediate_text n x
unfolding immediate_text
immediate_none n x e = rw e

-- ---- the lines of an Ops section, from i to end

module _ (bs : List ℕ) (i end : ℕ) (h : i < end) (k : end ≤ length bs) where
  -- the first line, and the rest
  pub ops_more : ops_lines (slice i end bs) ≡ instruction_line (placed_at bs i end) ++ ops_lines (slice (i + instruction_length (get_or bs i 0)) end bs)
  unfolding ops_lines instruction_lines
  ops_more =
      let op : ℕ = get_or bs i 0 in
      let cons : slice i end bs ≡ op ∷ slice (i + 1) end bs = slice-cons i end bs 0 h k ∙ ap (λ (j : ℕ). op ∷ slice j end bs) (sym (add-one i)) in
      ap (λ (l : List ℕ). instruction_lines (walk l)) cons
      ∙ ap instruction_lines (walk_next op (slice (i + 1) end bs))
      ∙ ap (λ (l : List ℕ). instruction_line (placed_at bs i end) ++ instruction_lines (walk l)) (ap (drop (instruction_length op)) (sym cons) ∙ drop-drop (instruction_length op) i (take end bs))

-- past the end there is no line
pub ops_none : (bs : List ℕ) (i end : ℕ) → end ≤ i → end ≤ length bs → ops_lines (slice i end bs) ≡ []
unfolding ops_lines instruction_lines
ops_none bs i end h k =
    let l : length (take end bs) ≤ i = rw (length-take-le end bs k) h in
    ap (λ (l : List ℕ). instruction_lines (walk l)) (drop_of_length-le (take end bs) l) ∙ ap instruction_lines walk_none

-- a run's first instruction, and those of the rest
pub lines_next : (code : List ℕ) → 0 < length code → ops_lines code ≡ instruction_line (first_placed code) ++ ops_lines (drop (instruction_length (get_or code 0 0)) code)
unfolding ops_lines instruction_lines
lines_next [] h = absurd (omega arith)
lines_next (op ∷ rest) h = ap instruction_lines (walk_next op rest)

-- an instruction is 1 to 33 bytes long, as the code has it
pub steps : (op : ℕ) {n : ℕ} → n ≡ instruction_length op → (0 < n) × (n ≤ 33)
steps op e = omega (arith, length_bounds op)

-- a walk of them, from i to end
module _ (r : TextSink) (whole : List ℕ) (s : TextSink) (bs : List ℕ) (i end : ℕ) (within : end ≤ length bs) where
  -- a turn adds the first instruction's line, and goes on at the next, whose place the code has as i + n
  pub ops_turn : {t : TextSink} (n : ℕ) → length r.text.now < 2 ^ 64 → i < end → n ≡ instruction_length (get_or (take (end - i) (drop i bs)) 0 0)
      → added s (ops_lines (slice i end bs)) ≡ added r whole → t ≡ added s (instruction_line (first_placed (take (end - i) (drop i bs))))
      → added t (ops_lines (slice (i + n) end bs)) ≡ added r whole
  ops_turn n short h was left put =
      let code : List ℕ = slice i end bs in
      let part : take (end - i) (drop i bs) ≡ code = part_is bs i end (omega arith) in
      let e = rw part at was in
      let p = rw part at put in
      let some : 0 < length code = omega (arith, length-slice i end bs within) in
      let next : drop (instruction_length (get_or code 0 0)) code ≡ slice (i + n) end bs = ap (λ (k : ℕ). drop k code) (sym e) ∙ drop-drop n i (take end bs) in
      turn r whole s _ _ short (lines_next code some ∙ ap (λ (l : List ℕ). instruction_line (first_placed code) ++ ops_lines l) next) left p

  -- none is left
  pub ops_done : s.place < 2 ^ 64 → end ≤ i → added s (ops_lines (slice i end bs)) ≡ added r whole → s ≡ added r whole
  ops_done small h left = done r whole s small (ops_none bs i end h within) left
