-- A call whose own numbers are judged: what was tried, or else judged by `adding`, is what the call answers and leaves.
-- Assumes nothing.
use Prim.Native.Nat.{ℕ, ◌+◌, ◌%◌, ◌^◌, min}
use native.Mathlib.Omega.{arith}
use mathlib.Core.Path.{◌≡◌, refl, ap, ◌∙◌}
use mathlib.Core.Bool.{true, false}
use mathlib.Core.List.{List}
use Rattle.std.specs.Prelude.{Some}
use lib.Dec.{leb}
use lib.ListN.{length}
use borrow.Author.Tests.{le-ltb, ltb-false}
use Rattle.units.specs.declared.MarkReference.{MarkReference}
use Rattle.records.specs.declared.record.StoredSection.{StoredSection}
use Rattle.records.specs.Record.{set_size_of}
use Rattle.records.specs.Store.{Store, words_per_section, max_bytes}
use Rattle.records.specs.Sections.{Section, ops}
use Rattle.calls.specs.Calls.{Push, push_reference, has_bad_depth, has_bad_word, has_large_mark, added, words_of, bytes_pass, push_reply, push_after}
use Rattle.calls.specs.AtOnce.{no_byte_left}
use Rattle.calls.proofs.Refusals.{add_stored}
use Rattle.calls.specs.Alone.{StandsAlone, words_reply, words_after}
use Rattle.calls.proofs.Alone.{alone_reply, alone_after}
use Rattle.numbers.specs.Numbers.{store_in, built_number}
use Rattle.numbers.specs.Forms.{form_of, formed, is_form, reference_number, reference_after}
use Rattle.numbers.proofs.Adds.{Adds, Pushes, OpBytes, push_adds, once-adds, op_bytes_judged}
use Rattle.numbers.proofs.Forms.{form_named}
use Rattle.short.specs.Tried.{TriedSection, TriedWords}

-- none of a call's own numbers is refused
abbrev pub Judged : Push → Type 0
Judged p = (has_bad_depth p ≡ false) × ((has_bad_word p ≡ false) × (has_large_mark p ≡ false))

-- what a call answers, and the words that it leaves
abbrev pub Leaves : Push → Store → ℕ → List ℕ → Type 0
Leaves p st answer ws = (answer ≡ built_number (push_reply words_per_section p st)) × (ws ≡ (push_after words_per_section p st).words)

-- what adding three words answers, and the words that it leaves
abbrev pub WordsAdded : StoredSection → Store → ℕ → List ℕ → Type 0
WordsAdded x st answer ws = (answer ≡ built_number (words_reply words_per_section x st)) × (ws ≡ (words_after words_per_section x st).words)

module _ (state : ℕ) (bytes words : List ℕ) where
  -- a section that was tried in vain, with nothing changed, and then judged
  pub add_judged : (s : Section) {bs ws : List ℕ} → (bs ≡ bytes) × (ws ≡ words)
      → {answer : ℕ} {bs' ws' : List ℕ} → Adds words_per_section s (store_in state bs ws) answer bs' ws'
      → Adds words_per_section s (store_in state bytes words) answer bs' ws'
  add_judged s left made = rw (left.0, left.1) at made

  -- a call that adds op bytes or data
  module _ (p : Push) (good : Judged p) {s : Section} (is : s ≡ added p) where
    pub pushed : {answer : ℕ} {bs ws : List ℕ} → Adds words_per_section s (store_in state bytes words) answer bs ws
        → Pushes words_per_section p (store_in state bytes words) answer bs ws
    pushed a = push_adds words_per_section p (store_in state bytes words) good.0 good.1.0 good.1.1 s _ _ _ is a

    pub push_judged : {bs ws : List ℕ} → (bs ≡ bytes) × (ws ≡ words)
        → {answer : ℕ} {bs' ws' : List ℕ} → Adds words_per_section s (store_in state bs ws) answer bs' ws'
        → Pushes words_per_section p (store_in state bytes words) answer bs' ws'
    push_judged left made = pushed (add_judged _ left made)

  -- a run of op bytes: accepted as a whole, it is accepted byte by byte
  module _ (run : List ℕ) {answer : ℕ} {bs ws : List ℕ} where
    pub op_bytes_done : (length run ≡ 0 → ⊥) → TriedSection (ops run) (store_in state bytes words) (Some answer) bs ws
        → OpBytes words_per_section run (store_in state bytes words) answer bs ws
    unfolding bytes_pass
    op_bytes_done some done =
        let st = store_in state bytes words in
        let tests = add_stored words_per_section (ops run) st done.stored in
        let fits = ltb-false (min (length bytes) max_bytes) (state % 2 ^ 32 + length run) tests.1 in
        let byte : no_byte_left st ≡ false = le-ltb (min (length bytes) max_bytes) (state % 2 ^ 32 + 1) (omega (arith, fits, some)) in
        op_bytes_judged words_per_section run st _ _ _ (omega arith) some (once-adds words_per_section run st tests.0 byte tests.2 _ _ _ done.all)

    -- or tried in vain, and then judged
    pub op_bytes_left : {bs' ws' : List ℕ} → (bs' ≡ bytes) × (ws' ≡ words) → OpBytes words_per_section run (store_in state bs' ws') answer bs ws
        → OpBytes words_per_section run (store_in state bytes words) answer bs ws
    op_bytes_left left made = rw (left.0, left.1) at made

  -- three words that were tried in vain, and then judged
  pub words_judged : (x : StoredSection) {ws : List ℕ} → ws ≡ words
      → {answer : ℕ} {ws' : List ℕ} → WordsAdded x (store_in state bytes ws) answer ws' → WordsAdded x (store_in state bytes words) answer ws'
  words_judged x left made = rw left at made

  -- a call that adds a mark or a reference, by its words
  module _ (p : Push) (good : Judged p) (alone : StandsAlone (added p)) {x : StoredSection} (is : x ≡ words_of 0 (added p)) where
    pub put : {answer : ℕ} {ws : List ℕ} → WordsAdded x (store_in state bytes words) answer ws
        → Leaves p (store_in state bytes words) answer ws
    put made =
        let st = store_in state bytes words in
        let reply = made.0 ∙ ap built_number (alone_reply words_per_section (added p) x st alone is) in
        let after = made.1 ∙ ap (λ (y : Store). y.words) (alone_after words_per_section (added p) x st alone is) in
        let all = pushed p good refl (reply, (refl, after)) in
        (all.0, all.1.1)

    pub put_done : {answer : ℕ} {ws : List ℕ} → TriedWords x (store_in state bytes words) (Some answer) bytes ws
        → Leaves p (store_in state bytes words) answer ws
    put_done done = put (done.all.0, done.all.1.1)

    pub put_judged : {ws : List ℕ} → ws ≡ words → {answer : ℕ} {ws' : List ℕ} → WordsAdded x (store_in state bytes ws) answer ws'
        → Leaves p (store_in state bytes words) answer ws'
    put_judged left made = put (words_judged x left made)

-- what pushing a reference of a form answers, and leaves
pub by_form : (n : ℕ) → is_form n ≡ true → (m : MarkReference) (st : Store) {answer : ℕ} {ws : List ℕ}
    → Leaves (push_reference (formed m (set_size_of (n % 8)) (leb 8 n))) st answer ws
    → (answer ≡ reference_number words_per_section m (form_of n) st) × (ws ≡ reference_after words_per_section m (form_of n) st)
by_form n is m st made = rw (form_named n is).form made
