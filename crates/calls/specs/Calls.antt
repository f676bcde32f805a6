-- Document 01, module 2, and document 02, request 1: the building calls. What each refuses, what it adds, and what an accepted call
-- leaves in counts and slices, for every store, damaged or not. The words of a section are a parameter, w. Assumes nothing.
use Rattle.std.specs.Prelude.{ℕ, ◌+◌, ◌*◌, min, ◌-◌, List, [], ◌∷◌, map, Bool, false, cond, not, ◌&&◌, ◌||◌, length, set, ltb, eqb}
use Rattle.units.specs.declared.MarkReference.{MarkReference}
use Rattle.units.specs.declared.MarkReference.TheVariants.{Direct, Delta}
use Rattle.units.specs.declared.AsmReference.{AsmReference}
use Rattle.units.specs.Numbers.{number, big_endian, least_bytes}
use Rattle.evm.specs.Opcodes.{swap_op, dup_op, push_op}
use Rattle.slices.specs.Over.{over}
use Rattle.units.specs.Replies.{bad_depth, bad_word, large_mark, bytes_full, sections_full, damaged}
use Rattle.units.specs.Reply.{Reply, accepted, refused}
use Rattle.records.specs.declared.Assembler.{Assembler}
use Rattle.records.specs.declared.record.StoredSection.{StoredSection}
use Rattle.records.specs.Damage.{Soundness}
use Rattle.records.specs.Damage.{Sound, Damaged}
use Rattle.records.specs.Record.{max_mark, mark_kind, ops_kind, data_kind, reference_words}
use Rattle.records.specs.Store.{Store, max_bytes, max_sections, empty_counts, counts_of, section_words, record_words}
use Rattle.records.specs.Damage.{last_soundness}
use Rattle.records.specs.Sections.{Section, mark, ops, bytes, reference}

-- the calls that add to a store
pub data Push : Type 0 where
  push_mark : ℕ → Push
  push_op_byte : ℕ → Push
  push_swap : ℕ → Push
  push_dup : ℕ → Push
  push_exchange : ℕ → ℕ → Push
  push_minimal_u256 : List ℕ → Push
  push_minimal_u64 : ℕ → Push
  push_minimal_u32 : ℕ → Push
  push_data : List ℕ → Push
  push_reference : AsmReference → Push

-- the building calls: one of those, a run of op bytes, or `clear`
pub data Call : Type 0 where
  push : Push → Call
  push_op_bytes : List ℕ → Call
  clear : Call

-- what a building call answers: the store's counts after it, or a refusal
abbrev pub BuiltReply : Type 0
BuiltReply = Reply Assembler

-- ---- refusals of the call's own numbers

-- 1: swap 0 or above 16; dup above 15; exchange of equals or above 16
abbrev pub has_bad_depth : Push → Bool
has_bad_depth (push_mark m) = false
has_bad_depth (push_op_byte b) = false
has_bad_depth (push_swap d) = eqb d 0 || ltb 16 d
has_bad_depth (push_dup d) = ltb 15 d
has_bad_depth (push_exchange n m) = eqb n m || (ltb 16 n || ltb 16 m)
has_bad_depth (push_minimal_u256 word) = false
has_bad_depth (push_minimal_u64 v) = false
has_bad_depth (push_minimal_u32 v) = false
has_bad_depth (push_data bs) = false
has_bad_depth (push_reference r) = false

-- 2: not 32 bytes
abbrev pub has_bad_word : Push → Bool
has_bad_word (push_mark m) = false
has_bad_word (push_op_byte b) = false
has_bad_word (push_swap d) = false
has_bad_word (push_dup d) = false
has_bad_word (push_exchange n m) = false
has_bad_word (push_minimal_u256 word) = not (eqb (length word) 32)
has_bad_word (push_minimal_u64 v) = false
has_bad_word (push_minimal_u32 v) = false
has_bad_word (push_data bs) = false
has_bad_word (push_reference r) = false

-- a reference names a mark above 1,048,575
abbrev pub names_large_mark : MarkReference → Bool
names_large_mark (Direct m) = ltb max_mark m.0
names_large_mark (Delta d) = ltb max_mark d.start.0 || ltb max_mark d.end.0

-- 3: number above 1,048,575
abbrev pub has_large_mark : Push → Bool
has_large_mark (push_mark m) = ltb max_mark m
has_large_mark (push_op_byte b) = false
has_large_mark (push_swap d) = false
has_large_mark (push_dup d) = false
has_large_mark (push_exchange n m) = false
has_large_mark (push_minimal_u256 word) = false
has_large_mark (push_minimal_u64 v) = false
has_large_mark (push_minimal_u32 v) = false
has_large_mark (push_data bs) = false
has_large_mark (push_reference r) = names_large_mark r.mark_ref

-- ---- what a call adds: one section, which may join the last one

-- exchange with a 0 is one SWAP of the other; else SWAP n, m, n
unfoldable pub exchange_ops : ℕ → ℕ → List ℕ
exchange_ops n m =
    cond (eqb n 0) (swap_op m ∷ [])
    (cond (eqb m 0) (swap_op n ∷ [])
    (swap_op n ∷ swap_op m ∷ swap_op n ∷ []))

-- PUSH0 for 0, else the least PUSH1 to PUSH32 with its bytes, highest first
unfoldable pub minimal_push : ℕ → List ℕ
minimal_push v = push_op (least_bytes 32 v) ∷ big_endian (least_bytes 32 v) v

-- the section that a call adds
abbrev pub added : Push → Section
added (push_mark m) = mark m
added (push_op_byte b) = ops (b ∷ [])
added (push_swap d) = ops (swap_op d ∷ [])
added (push_dup d) = ops (dup_op d ∷ [])
added (push_exchange n m) = ops (exchange_ops n m)
added (push_minimal_u256 word) = ops (minimal_push (number word))
added (push_minimal_u64 v) = ops (minimal_push v)
added (push_minimal_u32 v) = ops (minimal_push v)
added (push_data bs) = bytes bs
added (push_reference r) = reference r

-- ---- its effect on counts and slices

-- the bytes that a section holds
abbrev pub bytes_of : Section → List ℕ
bytes_of (mark m) = []
bytes_of (ops bs) = bs
bytes_of (bytes bs) = bs
bytes_of (reference r) = []

-- the words of a section whose bytes start at `at`
abbrev pub words_of : ℕ → Section → StoredSection
words_of at (mark m) = record { kind = mark_kind; first = m; second = 0 }
words_of at (ops bs) = record { kind = ops_kind; first = at; second = at + length bs }
words_of at (bytes bs) = record { kind = data_kind; first = at; second = at + length bs }
words_of at (reference r) = reference_words r

-- may the last section, of this kind, be extended by what is added: op bytes extend Ops, data Data
abbrev pub extends : ℕ → Section → Bool
extends kind (mark m) = false
extends kind (ops bs) = eqb kind ops_kind
extends kind (bytes bs) = eqb kind data_kind
extends kind (reference r) = false

-- what is added extends the last section, of which there is one; else 'a section is added'
unfoldable pub joins : ℕ → Section → Store → Bool
joins w s st = ltb 0 st.sections && extends (section_words w st (st.sections - 1)).kind s

-- the last section extended: the bytes appended, and its end (word 2) replaced
abbrev pub joined : ℕ → Section → Store → Store
joined w s st =
    record {
      bytes = over st.bytes st.stored_bytes (bytes_of s);
      words = set st.words (w * (st.sections - 1) + 2) (st.stored_bytes + length (bytes_of s));
      stored_bytes = st.stored_bytes + length (bytes_of s);
      sections = st.sections;
    }

-- a section added: the bytes appended, and one record
abbrev pub appended : ℕ → Section → Store → Store
appended w s st =
    record {
      bytes = over st.bytes st.stored_bytes (bytes_of s);
      words = over st.words (w * st.sections) (record_words w (words_of st.stored_bytes s));
      stored_bytes = st.stored_bytes + length (bytes_of s);
      sections = st.sections + 1;
    }

-- the store with what is added: 'op bytes extend a last Ops section, data a last Data section, else a section is added'
unfoldable pub with_section : ℕ → Section → Store → Store
with_section w s st = cond (joins w s st) (joined w s st) (appended w s st)

-- ---- the answer: refusals in the order 1, 2, 3, 6, 4, 5

-- so many bytes more pass slice or limit
abbrev pub bytes_over : List ℕ → ℕ → ℕ → Bool
bytes_over slice count more = ltb (min (length slice) max_bytes) (count + more)

-- 4: the call's bytes pass slice or limit
unfoldable pub bytes_pass : Section → Store → Bool
bytes_pass s st = bytes_over st.bytes st.stored_bytes (length (bytes_of s))

-- one section more passes slice or limit
unfoldable pub no_section_left : ℕ → ℕ → List ℕ → Bool
no_section_left w sections words = ltb max_sections (sections + 1) || ltb (length words) (w * (sections + 1))

-- 5: a needed section passes slice or limit
unfoldable pub section_passes : ℕ → Section → Store → Bool
section_passes w s st = not (joins w s st) && no_section_left w st.sections st.words

-- 4, 5, or stored
unfoldable pub room_reply : ℕ → Section → Store → BuiltReply
room_reply w s st =
    cond (bytes_pass s st) (refused bytes_full 0 0)
    (cond (section_passes w s st) (refused sections_full 0 0)
    (accepted (counts_of (with_section w s st))))

-- 6 at the section that the test found, or what follows
abbrev pub sound_reply : Soundness → BuiltReply → BuiltReply
sound_reply (Damaged i) next = refused damaged i 0
sound_reply Sound next = next

-- the answer to adding a section: 6, then 4, 5 or stored
unfoldable pub add_reply : ℕ → Section → Store → BuiltReply
add_reply w s st = sound_reply (last_soundness w st) (room_reply w s st)

-- the answer to a call that adds to a store: 1, 2, 3, then that to adding its section
unfoldable pub push_reply : ℕ → Push → Store → BuiltReply
push_reply w p st =
    cond (has_bad_depth p) (refused bad_depth 0 0)
    (cond (has_bad_word p) (refused bad_word 0 0)
    (cond (has_large_mark p) (refused large_mark 0 0)
    (add_reply w (added p) st)))

-- ---- the store afterwards

-- refused, it is as it was
abbrev pub if_stored : BuiltReply → Store → Store → Store
if_stored (accepted counts) new old = new
if_stored (refused n i k) new old = old

-- the store after adding a section
unfoldable pub add_after : ℕ → Section → Store → Store
add_after w s st = if_stored (add_reply w s st) (with_section w s st) st

-- the store after a call that adds to it
unfoldable pub push_after : ℕ → Push → Store → Store
push_after w p st = if_stored (push_reply w p st) (with_section w (added p) st) st

-- ---- all or nothing (document 02, request 1): calls made in turn, up to the first that is refused

-- a refusal is the answer; after an accepted call, the next answer is
abbrev pub unless_refused : BuiltReply → BuiltReply → BuiltReply
unless_refused (accepted counts) next = next
unless_refused (refused n i k) next = refused n i k

-- the answer: 'the first such byte's refusal', else the counts after the last call; of no call, the counts as they are
unfoldable pub all_reply : ℕ → List Push → Store → BuiltReply
all_reply w [] st = accepted (counts_of st)
all_reply w (p ∷ ps) st = unless_refused (push_reply w p st) (all_reply w ps (push_after w p st))

-- the store after each of them in turn; one that is refused leaves it as it is
unfoldable pub each_after : ℕ → List Push → Store → Store
each_after w [] st = st
each_after w (p ∷ ps) st = each_after w ps (push_after w p st)

-- 'all or nothing': accepted, what each in turn leaves; 'if some byte would be refused, nothing is stored'
unfoldable pub all_after : ℕ → List Push → Store → Store
all_after w ps st = if_stored (all_reply w ps st) (each_after w ps st) st

-- a run of op bytes is 'pushing each byte in turn'
abbrev pub each_op_byte : List ℕ → List Push
each_op_byte bs = map push_op_byte bs

-- ---- any building call, and lists of them

-- `clear`: 'counts to 0, any state'; no slice is touched
abbrev pub emptied : Store → Store
emptied st = record { bytes = st.bytes; words = st.words; stored_bytes = 0; sections = 0 }

-- the answer to a building call; `clear` can't be refused
abbrev pub call_reply : ℕ → Call → Store → BuiltReply
call_reply w (push p) st = push_reply w p st
call_reply w (push_op_bytes bs) st = all_reply w (each_op_byte bs) st
call_reply w clear st = accepted empty_counts

-- the store after a building call
abbrev pub call_after : ℕ → Call → Store → Store
call_after w (push p) st = push_after w p st
call_after w (push_op_bytes bs) st = all_after w (each_op_byte bs) st
call_after w clear st = emptied st

-- the answers to a list of calls, made one after another
unfoldable pub run_replies : ℕ → List Call → Store → List BuiltReply
run_replies w [] st = []
run_replies w (c ∷ cs) st = call_reply w c st ∷ run_replies w cs (call_after w c st)

-- the store after them
unfoldable pub run_after : ℕ → List Call → Store → Store
run_after w [] st = st
run_after w (c ∷ cs) st = run_after w cs (call_after w c st)
