-- Op bytes and data: the tests and what is added, said once for both kinds. Assumes nothing.
use Prim.Native.Nat.{ℕ, ◌+◌, ◌*◌, ◌-◌}
use mathlib.Core.Path.{◌≡◌, refl, ap}
use mathlib.Core.Bool.{Bool, true, false, not, ◌&&◌}
use mathlib.Core.List.{List}
use lib.ListN.{length, set}
use Rattle.records.specs.Record.{stored_section}
use Rattle.slices.specs.Over.{over}
use Rattle.records.specs.Store.{Store, store_of, record_words}
use Rattle.records.specs.Damage.{last_soundness}
use Rattle.records.specs.Sections.{Section, ops, bytes}
use Rattle.records.specs.Damage.{Sound}
use Rattle.calls.specs.Calls.{joins, bytes_over, bytes_pass, no_section_left, section_passes}
use Rattle.numbers.specs.Numbers.{packed, counts_in, store_in}
use Rattle.records.specs.declared.Assembler.{Assembler}
use Rattle.numbers.proofs.Adds.{Adds, add_joined, add-appended}
use Rattle.adding.specs.Adding.{kind_number, bytes_section, last_kind_is, ops_section_passes}
use Rattle.adding.specs.declared.BytesKind.{BytesKind}
use Rattle.adding.specs.declared.BytesKind.TheVariants.{Ops, Data}

pub pass_is : (k : BytesKind) (bs : List ℕ) (st : Store)
    → bytes_over st.bytes st.stored_bytes (length bs) ≡ bytes_pass (bytes_section k bs) st
unfolding bytes_pass
pass_is Ops bs st = refl
pass_is Data bs st = refl

pub joins_is : (w : ℕ) (k : BytesKind) (bs : List ℕ) (st : Store)
    → last_kind_is w st.sections st.words (kind_number k) ≡ joins w (bytes_section k bs) st
unfolding joins last_kind_is
joins_is w Ops bs st = refl
joins_is w Data bs st = refl

-- 5, of op bytes
pub section_is : (w : ℕ) (bs : List ℕ) (st : Store) → ops_section_passes w st.sections st.words ≡ section_passes w (ops bs) st
unfolding section_passes
section_is w bs st = ap (λ (t : Bool). not t && no_section_left w st.sections st.words) (joins_is w Ops bs st)

pub bytes_joined : (w : ℕ) (k : BytesKind) (bs : List ℕ) (st : Store)
    → last_soundness w st ≡ Sound → bytes_pass (bytes_section k bs) st ≡ false → joins w (bytes_section k bs) st ≡ true
    → Adds w (bytes_section k bs) st (packed 0 st.sections (st.stored_bytes + length bs)) (over st.bytes st.stored_bytes bs)
    (set st.words (w * (st.sections - 1) + 2) (st.stored_bytes + length bs))
bytes_joined w Ops bs st s r j = add_joined w (ops bs) st s r j
bytes_joined w Data bs st s r j = add_joined w (bytes bs) st s r j

pub bytes_appended : (w : ℕ) (k : BytesKind) (bs : List ℕ) (st : Store)
    → last_soundness w st ≡ Sound → bytes_pass (bytes_section k bs) st ≡ false → joins w (bytes_section k bs) st ≡ false
    → no_section_left w st.sections st.words ≡ false
    → Adds w (bytes_section k bs) st (packed 0 (st.sections + 1) (st.stored_bytes + length bs)) (over st.bytes st.stored_bytes bs)
    (over st.words (w * st.sections) (record_words w (stored_section (kind_number k) st.stored_bytes (st.stored_bytes + length bs))))
bytes_appended w Ops bs st s r j f = add-appended w (ops bs) st s r j f
bytes_appended w Data bs st s r j f = add-appended w (bytes bs) st s r j f

-- of the counts that a state is
pub at_state : (w : ℕ) (s : Section) (state : ℕ) (counts : Assembler) (bs ws : List ℕ) → counts ≡ counts_in state → {answer : ℕ} {bs' ws' : List ℕ}
    → Adds w s (store_of counts bs ws) answer bs' ws' → Adds w s (store_in state bs ws) answer bs' ws'
at_state w s state counts bs ws e all = rw e at all
