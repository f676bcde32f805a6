-- The listing passes the text, or it fits. Assumes nothing.
use Rattle.listing.proofs.ListingAnswers.{answers_full, answers_text}
use Rattle.listing.proofs.write_sound.Goals as goal

pub returns-then-text-length : goal.returns-then-text-length
returns-then-text-length c =
    let both = answers_full _ _ _ c.args.store.undamaged _ c.write_store-length.ensures.length c.if-text-length.true in
    record { answer = both.0; written = both.1 }

pub returns : goal.returns
returns c =
    let both = answers_text _ _ _ c.args.store.undamaged _ c.write_store-length.ensures.length c.if-text-length.false c.write_store.ensures.written in
    record { answer = both.0; written = both.1 }
