-- What a short way answers: nothing, with nothing changed, or the next state of an accepted call, and then all is as document 01 says of it.
-- Which of the two is left to its test. Assumes nothing.
use Rattle.std.specs.Prelude.{◌≡◌, ℕ, Option, MatchOption, List, cond, eqb}
use Rattle.records.specs.Record.{data_kind}
use Rattle.records.specs.declared.record.StoredSection.{StoredSection}
use Rattle.records.specs.Store.{Store, words_per_section}
use Rattle.records.specs.Sections.{Section, ops, bytes}
use Rattle.calls.specs.Calls.{BuiltReply, add_reply, add_after}
use Rattle.calls.specs.Alone.{words_reply, words_after}
use Rattle.calls.specs.Answers.{IsStored}
use Rattle.numbers.specs.Numbers.{built_number}

-- the next state and the two slices at exit, by the reply of an accepted call and the store afterwards
pub record Done (reply : BuiltReply) (after : Store) (next : ℕ) (bytes words : List ℕ) : Type 0 where
  pub all : (next ≡ built_number reply) × ((bytes ≡ after.bytes) × (words ≡ after.words))
  pub stored : IsStored reply

-- the answer and the two slices at exit, by the reply and the store afterwards, and the store before
abbrev pub Tried : BuiltReply → Store → Store → Option ℕ → List ℕ → List ℕ → Type 0
Tried reply after before answer bs ws =
    MatchOption answer ((bs ≡ before.bytes) × (ws ≡ before.words)) (λ next. Done reply after next bs ws)

-- of a section
abbrev pub TriedSection : Section → Store → Option ℕ → List ℕ → List ℕ → Type 0
TriedSection s st answer bs ws = Tried (add_reply words_per_section s st) (add_after words_per_section s st) st answer bs ws

-- of three words
abbrev pub TriedWords : StoredSection → Store → Option ℕ → List ℕ → List ℕ → Type 0
TriedWords x st answer bs ws = Tried (words_reply words_per_section x st) (words_after words_per_section x st) st answer bs ws

-- the section that data is
abbrev pub data_section : List ℕ → Section
data_section bs = bytes bs

-- op bytes or data, by their kind
abbrev pub span_section : ℕ → List ℕ → Section
span_section kind bs = cond (eqb kind data_kind) (data_section bs) (ops bs)
