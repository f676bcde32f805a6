-- By the whole test: damaged, or what the undamaged store gives. Assumes nothing.
use mathlib.Core.Path.{ap, ◌∙◌}
use Rattle.records.specs.Store.{Store, words_per_section}
use Rattle.listing.specs.Answer.{listing_reply, listing_buffer}
use Rattle.listing.proofs.Every.{store_same}
use Rattle.listing.proofs.ListingAnswers.{refused_reply, refused_buffer}
use Rattle.listing.proofs.write_asm.Goals as goal

pub returns-in_err-store : goal.returns-in_err-store
returns-in_err-store c = record {
  answer = refused_reply _ _ _ _ c.check.ensures.soundness _ c.in_err-store.was _ c.from_residual.ensures.1;
  written = refused_buffer _ _ _ _ c.check.ensures.soundness _ c.in_err-store.was;
}

pub returns : goal.returns
returns c =
    let same = store_same _ _ c.args.store c.args.bytes.now c.args.words.now c.check.ensures.store c.in_ok-store.was in
    record {
      answer = c.write_sound.ensures.answer ∙ ap (λ (st : Store). listing_reply words_per_section st c.args.text.now) same;
      written = c.write_sound.ensures.written ∙ ap (λ (st : Store). listing_buffer words_per_section st c.args.text.now) same;
    }
