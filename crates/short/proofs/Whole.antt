-- A last section that the tests took can be read, and isn't broken. Assumes nothing.
use Prim.Native.Nat.{ℕ, ◌-◌, ◌≤◌, ◌<◌}
use native.Mathlib.Omega.{arith}
use mathlib.Core.Path.{◌≡◌, refl, sym, ap}
use mathlib.Core.Bool.{Bool, true, false, and-false}
use lib.Dec.{ltb, eqb}
use borrow.Author.Tests.{eq-eqb, ne_eqb, ltb-true, ltb-false, eqb-true, eqb-false}
use Rattle.records.specs.Record.{max_mark, read_section}
use Rattle.records.specs.Damage.{unreadable, is_span, broken_last}
use Rattle.records.specs.declared.record.AsmSection.TheVariants.{Ops, Data}
use Rattle.records.specs.declared.record.StoredSection.{StoredSection}
use Rattle.records.proofs.Reading.{mark_read, span_read, direct_pushed, delta_read, section_mark, section_ops, section_data, section_direct, section_pushed_delta, section_raw_delta}

module _ (x : StoredSection) where
  -- it can be read
  pub mark_readable : x.kind ≡ 0 → x.first ≤ max_mark → x.second ≡ 0 → unreadable (read_section x) ≡ false
  mark_readable k f s = ap unreadable (sym (section_mark x _ k (mark_read x.first x.second f s)))

  pub bytes_readable : 0 < x.kind → x.kind < 3 → x.first ≤ x.second → unreadable (read_section x) ≡ false
  bytes_readable l h o = go (eqb x.kind 1) refl
    where
      go : (t : Bool) → eqb x.kind 1 ≡ t → unreadable (read_section x) ≡ false
      go true e = ap unreadable (sym (section_ops x _ (eqb-true x.kind 1 e) (span_read x.first x.second Ops o)))
      go false e = ap unreadable (sym (section_data x _ (omega (arith, eqb-false x.kind 1 e)) (span_read x.first x.second Data o)))

  pub direct_readable : x.kind ≡ 3 → x.first ≤ max_mark → x.second ≡ 8 → unreadable (read_section x) ≡ false
  direct_readable k f s = ap unreadable (sym (section_direct x _ k (direct_pushed x.first x.second _ f (omega (arith, s)) (omega (arith, s)) refl)))

  pub delta_readable : 4 ≤ x.kind → x.kind ≤ 13 → x.first ≤ max_mark → x.second ≤ max_mark → unreadable (read_section x) ≡ false
  delta_readable l h f s = go (ltb x.kind 9) refl
    where
      go : (t : Bool) → ltb x.kind 9 ≡ t → unreadable (read_section x) ≡ false
      go true e = ap unreadable (sym (section_pushed_delta x _ l (ltb-true x.kind 9 e) (delta_read x.first x.second _ (x.kind - 4) true f s refl)))
      go false e = ap unreadable (sym (section_raw_delta x _ (ltb-false x.kind 9 e) (omega arith) (delta_read x.first x.second _ (x.kind - 9) false f s refl)))

  module _ (n : ℕ) where
    -- and isn't broken
    pub whole_mark : x.kind ≡ 0 → x.first ≤ max_mark → x.second ≡ 0 → broken_last x n ≡ false
    whole_mark k f s = rw (mark_readable k f s, k)

    pub whole_bytes : 0 < x.kind → x.kind < 3 → x.first ≤ n → x.second ≡ n → broken_last x n ≡ false
    whole_bytes l h f s = rw (bytes_readable l h (omega (arith, f, s)), eq-eqb x.second n s) (and-false (is_span x.kind))

    pub whole_reference : 3 ≤ x.kind → unreadable (read_section x) ≡ false → broken_last x n ≡ false
    whole_reference l e = rw (e, ne_eqb x.kind 1 (omega (arith, l)), ne_eqb x.kind 2 (omega (arith, l)))
