use Rattle.std.proofs.Common.{◌≡◌, ℕ, ◌≤◌, List, OnOk, length, take, length-take-le, sym, ap, ◌∙◌, subst}
use Rattle.std.specs.Io.KnownBytes.{Appends}
use Rattle.job.proofs.Text.{not_short, text_of_job}
use Rattle.job.proofs.print_job.Goals as goal

pub returns-in_default : goal.returns-in_default
returns-in_default g c = absurd (not_short _ _ c.requires c.in_default.ensures.answer)

pub returns-clause-written : goal.returns-clause-written
returns-clause-written g c =
    subst
    (λ bytes. OnOk c.write_all.result (Appends (g.W.Write.contents c.args.out.now) (g.W.Write.contents c.write_all.new.self) bytes))
    (text_of_job c.args.job.now c.args.text.now _ _ _ c.requires c.in-Ok.ensures.answer c.in-Ok.ensures.text)
    c.write_all.ensures.bytes

-- a front of the buffer that is p, found by p's length
front : (n : ℕ) (text p : List ℕ) → n ≤ length text → take n text ≡ p → take (length p) text ≡ p
front n text p within is = ap (λ k. take k text) (ap length (sym is) ∙ length-take-le n text within) ∙ is

pub returns-clause-held : goal.returns-clause-held
returns-clause-held g c =
    front c.in-Ok.ran.text_length c.write_text.new.text _ c.in-Ok.ensures.within
    (text_of_job c.args.job.now c.args.text.now _ _ _ c.requires c.in-Ok.ensures.answer c.in-Ok.ensures.text)
