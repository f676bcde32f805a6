-- What the laws of the building calls say: when each answer is given, what an accepted call makes of an undamaged store, what a call
-- leaves alone, and that every call of a list was accepted. Assumes nothing.
use Rattle.std.specs.Prelude.{◌≡◌, ℕ, ◌*◌, ◌≤◌, ◌↔◌, Bool, true, false, not, ◌&&◌, ◌||◌, List, [], ◌∷◌, ◌++◌, length, drop}
use Rattle.units.specs.Replies.{bad_depth, bad_word, large_mark, bytes_full, sections_full, damaged}
use Rattle.units.specs.Reply.{accepted, refused}
use Rattle.records.specs.Damage.{Damaged}
use Rattle.records.specs.Store.{Store, counts_of}
use Rattle.records.specs.declared.Assembler.{Assembler}
use Rattle.records.specs.Damage.{last_soundness}
use Rattle.records.specs.Sections.{ops, decode}
use Rattle.calls.specs.Calls.{BuiltReply, Push, Call, has_bad_depth, has_bad_word, has_large_mark, added, with_section}
use Rattle.calls.specs.Calls.{bytes_pass, section_passes, push_reply, all_reply, each_after, push_op_bytes, call_reply, call_after}
use Rattle.calls.specs.AtOnce.{no_byte_left}
use Rattle.calls.specs.Lists.{call_list}
use Rattle.undamaged.specs.View.{Undamaged, unsound}

-- no test of a list passes
abbrev pub NoneOf : List Bool → Type 0
NoneOf [] = Unit {0}
NoneOf (b ∷ bs) = (b ≡ false) × NoneOf bs

-- a condition holds and none of the earlier ones does; the refusal's section and passes are 0
abbrev pub First : List Bool → Bool → ℕ → ℕ → Type 0
First earlier condition i k = NoneOf earlier × (condition ≡ true) × (i ≡ 0) × (k ≡ 0)

-- the tests of a call's own numbers, 1, 2 and 3
abbrev pub own_tests : Push → List Bool
own_tests p = has_bad_depth p ∷ has_bad_word p ∷ has_large_mark p ∷ []

-- when a call that adds to a store answers what, in the order 1, 2, 3, 6, 4, 5; there is no other answer
pub record PushAnswers (w : ℕ) (p : Push) (st : Store) : Type 0 where
  pub bad_depth_iff : (i k : ℕ) → (push_reply w p st ≡ refused bad_depth i k) ↔ First [] (has_bad_depth p) i k
  pub bad_word_iff : (i k : ℕ) → (push_reply w p st ≡ refused bad_word i k) ↔ First (has_bad_depth p ∷ []) (has_bad_word p) i k
  pub large_mark_iff : (i k : ℕ)
      → (push_reply w p st ≡ refused large_mark i k) ↔ First (has_bad_depth p ∷ has_bad_word p ∷ []) (has_large_mark p) i k
  pub damaged_iff : (i k : ℕ)
      → (push_reply w p st ≡ refused damaged i k)
      ↔ (NoneOf (own_tests p) × (last_soundness w st ≡ Damaged i) × (k ≡ 0))
  pub bytes_full_iff : (i k : ℕ)
      → (push_reply w p st ≡ refused bytes_full i k)
      ↔ First (own_tests p ++ (unsound (last_soundness w st) ∷ [])) (bytes_pass (added p) st) i k
  pub sections_full_iff : (i k : ℕ)
      → (push_reply w p st ≡ refused sections_full i k)
      ↔ First (own_tests p ++ (unsound (last_soundness w st) ∷ bytes_pass (added p) st ∷ [])) (section_passes w (added p) st) i k
  pub accepted_iff : (counts : Assembler)
      → (push_reply w p st ≡ accepted counts)
      ↔ (NoneOf (own_tests p ++ (unsound (last_soundness w st) ∷ bytes_pass (added p) st ∷ section_passes w (added p) st ∷ []))
      × (counts ≡ counts_of (with_section w (added p) st)))
  pub numbers : (n i k : ℕ) → push_reply w p st ≡ refused n i k → (1 ≤ n) × (n ≤ 6)

-- when a run of op bytes b ∷ bs answers what: 6; 4 for the first byte, or for a later one where the first is stored; 5 for the first byte,
-- which fits; there is no other answer. An empty run is accepted with the counts as they are (`no_op_bytes`, proofs/OpBytesAnswers).
pub record OpBytesAnswers (w b : ℕ) (bs : List ℕ) (st : Store) : Type 0 where
  pub damaged_iff : (i k : ℕ)
      → (call_reply w (push_op_bytes (b ∷ bs)) st ≡ refused damaged i k) ↔ ((last_soundness w st ≡ Damaged i) × (k ≡ 0))
  pub bytes_full_iff : (i k : ℕ)
      → (call_reply w (push_op_bytes (b ∷ bs)) st ≡ refused bytes_full i k)
      ↔ First (unsound (last_soundness w st) ∷ [])
      (no_byte_left st || not (section_passes w (ops (b ∷ bs)) st) && bytes_pass (ops (b ∷ bs)) st) i k
  pub sections_full_iff : (i k : ℕ)
      → (call_reply w (push_op_bytes (b ∷ bs)) st ≡ refused sections_full i k)
      ↔ First (unsound (last_soundness w st) ∷ no_byte_left st ∷ []) (section_passes w (ops (b ∷ bs)) st) i k
  pub accepted_iff : (counts : Assembler)
      → (call_reply w (push_op_bytes (b ∷ bs)) st ≡ accepted counts)
      ↔ (NoneOf (unsound (last_soundness w st) ∷ no_byte_left st ∷ section_passes w (ops (b ∷ bs)) st ∷ bytes_pass (ops (b ∷ bs)) st ∷ [])
      × (counts ≡ counts_of (with_section w (ops (b ∷ bs)) st)))
  pub numbers : (n i k : ℕ) → call_reply w (push_op_bytes (b ∷ bs)) st ≡ refused n i k → (4 ≤ n) × (n ≤ 6)

-- calls in turn: those before `call` are accepted, and `call` is refused with this number, section and passes
pub record FirstRefused (w : ℕ) (ps : List Push) (st : Store) (n i k : ℕ) : Type 0 where
  pub before : List Push
  pub call : Push
  pub others : List Push
  pub split : ps ≡ before ++ (call ∷ others)
  pub stored : (counts : Assembler) × (all_reply w before st ≡ accepted counts)
  pub refusal : push_reply w call (each_after w before st) ≡ refused n i k

-- an accepted call on an undamaged store: undamaged again, the list as `call_list` has it, and the answer is the counts
pub record Accepted (w : ℕ) (c : Call) (st : Store) (counts : Assembler) : Type 0 where
  pub undamaged : Undamaged w (call_after w c st)
  pub list : decode w (call_after w c st) ≡ call_list c (decode w st)
  pub answer : counts ≡ counts_of (call_after w c st)

-- both slices keep their length, and what they hold past the counts after a call
pub record Kept (w : ℕ) (before after : Store) : Type 0 where
  pub bytes_length : length after.bytes ≡ length before.bytes
  pub words_length : length after.words ≡ length before.words
  pub bytes_past : drop after.stored_bytes after.bytes ≡ drop after.stored_bytes before.bytes
  pub words_past : drop (w * after.sections) after.words ≡ drop (w * after.sections) before.words

-- an accepted call
abbrev pub IsStored : BuiltReply → Type 0
IsStored (accepted counts) = Unit {0}
IsStored (refused n i k) = ⊥

-- every call of a list was accepted
abbrev pub EveryStored : List BuiltReply → Type 0
EveryStored [] = Unit {0}
EveryStored (r ∷ rs) = IsStored r × EveryStored rs
