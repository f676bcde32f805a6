-- 6; then the tests of an undamaged store, with a map as large as the table asks for. Assumes nothing.
use mathlib.Core.Path.{◌≡◌, sym, ap, ◌∙◌, subst}
use mathlib.Core.List.{List}
use Prim.Native.Nat.{ℕ}
use Rattle.std.proofs.Common.{Err}
use Rattle.std.proofs.lemmas.Result.{err_from_is_err_and}
use Rattle.units.specs.Reply.{Reply}
use Rattle.records.specs.Store.{Store, store_of, words_per_section}
use Rattle.records.specs.Sections.{Section}
use Rattle.layout.specs.Answer.{Laid}
use Rattle.settling.specs.Settle.{settled_reply}
use Rattle.settling.specs.SectionWalk.{sections_in}
use Rattle.settling.proofs.Sections.{sections_same}
use Rattle.tables.specs.TableTests.{table_answer, table_reply, table_test}
use Rattle.tables.specs.TableAnswers.{AcceptsEnough}
use Rattle.tables.proofs.TableLaws.{sound_test, damaged_test, accepts_enough}
use Rattle.tables.proofs.check_table.Goals as goal
use Rattle.tables.proofs.check_table.Goals.{In_ok-store}

-- the contract, of a reply that is the defined one
kept : (st : Store) (table : List ℕ) {reply : Reply Laid} → reply ≡ table_test words_per_section st table
    → (reply ≡ table_test words_per_section st table) × AcceptsEnough words_per_section st table reply
kept st table e = (e, subst (AcceptsEnough words_per_section st table) (sym e) (accepts_enough words_per_section st table))

-- of what the sections answer
answered : (c : In_ok-store) {reply : Reply Laid} → reply ≡ table_reply (table_answer c.args.table.now (sections_in c.in_ok-store.store))
    → let st = store_of c.args.store c.args.bytes.now c.args.words.now in
    (reply ≡ table_test words_per_section st c.args.table.now) × AcceptsEnough words_per_section st c.args.table.now reply
answered c e =
    let st = store_of c.args.store c.args.bytes.now c.args.words.now in
    let same = sections_same c.in_ok-store.store c.args.store c.args.bytes.now c.args.words.now c.in_ok-store.ensures.store in
    kept st c.args.table.now (e ∙ ap (λ (ss : List Section). table_reply (table_answer c.args.table.now ss)) same ∙ sym (sound_test words_per_section st c.args.table.now (sym c.in_ok-store.ensures.soundness)))

pub returns-in_err-store : goal.returns-in_err-store
returns-in_err-store c =
    let p = err_from_is_err_and c.from_residual.result c.from_residual.ensures.1 in
    let st = store_of c.args.store c.args.bytes.now c.args.words.now in
    let all = kept st c.args.table.now (ap settled_reply (p.1 ∙ ap Err p.2) ∙ sym (damaged_test words_per_section st c.args.table.now _ (sym c.in_err-store.ensures.soundness))) in
    record { reply = all.0; enough = all.1 }

pub returns-then-table-le-SMALL : goal.returns-then-table-le-SMALL
returns-then-table-le-SMALL c =
    let all = answered (goal.at.returns-then-table-le-SMALL c).In_ok-store c.check_in.ensures in
    record { reply = all.0; enough = all.1 }

pub returns : goal.returns
returns c =
    let all = answered (goal.at.returns c).In_ok-store c.check_in-2.ensures in
    record { reply = all.0; enough = all.1 }
