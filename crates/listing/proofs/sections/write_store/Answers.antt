-- A turn adds the first section of what is left. Where the walk ends, all is added; an undamaged store's text has room. Assumes nothing.
use Prim.Native.Nat.{◌<◌, ◌^◌}
use native.Mathlib.Omega.{arith}
use mathlib.Core.Path.{sym, ap}
use lib.ListN.{length}
use Rattle.std.proofs.Common.{rules}
use Rattle.records.specs.Store.{Store, words_per_section}
use Rattle.undamaged.proofs.Soundness.{undamaged_iff}
use Rattle.lines.specs.Sink.{added}
use Rattle.lines.proofs.Sinks.{added_then}
use Rattle.listing.specs.Room.{Room, store_in, store_text}
use Rattle.listing.proofs.Added.{added_count}
use Rattle.listing.proofs.Every.{rest_start, every_turn, every_done, words_in, store_room}
use Rattle.listing.proofs.sections.write_store.Goals as goal

pub loop-i-init : goal.loop-i-init
loop-i-init c = (omega (arith, c.new-sink.ensures.1), ap (added c.new-sink.result) (sym (rest_start words_per_section (store_in c.args.store))))

pub add_section-requires : goal.add_section-requires
add_section-requires c =
    let st : Store = store_in c.args.store in
    words_in words_per_section st ((undamaged_iff words_per_section st).0 c.args.store.undamaged) c.loop-i.i _ c.loop-i-test.true (c.section.ensures c.loop-i-test.true)

pub loop-i-preserved : goal.loop-i-preserved
loop-i-preserved c =
    let st : Store = store_in c.args.store in
    let short : length c.new-sink.result.text.now < 2 ^ 64 = omega (arith, ap (λ (t : _). length t.now) c.new-sink.ensures.0) in
    let turned = every_turn words_per_section st _ _ _ _ c.loop-i.invariant.1 _ short c.loop-i-test.true (c.section.ensures c.loop-i-test.true) c.add_section.ensures in
    (added_then _ _ c.add_section.ensures, turned)

pub returns-clause-length : goal.returns-clause-length
returns-clause-length c =
    let st : Store = store_in c.args.store in
    let all = every_done words_per_section st _ _ _ _ c.loop-i.invariant.1 c.loop-i.invariant.0 c.loop-i-test.false in
    let start = store_room words_per_section st c.args.store.undamaged in
    let room : Room c.new-sink.result.place (store_text words_per_section st) = record { fits = omega (arith, start.fits, c.new-sink.ensures.1) } in
    omega (arith, c.place.ensures, added_count _ _ room all, c.new-sink.ensures.1)

pub returns-clause-written : goal.returns-clause-written
unfolding added
returns-clause-written c =
    let all = every_done words_per_section (store_in c.args.store) _ _ _ _ c.loop-i.invariant.1 c.loop-i.invariant.0 c.loop-i-test.false in
    search rules
