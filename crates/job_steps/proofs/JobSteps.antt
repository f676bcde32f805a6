-- A step by its kind: whether it is listed, and the call that it is. Assumes nothing.
use Prim.Native.Nat.{ℕ, ◌-◌, ◌≤◌, ◌<◌}
use mathlib.Core.Path.{◌≡◌, refl, sym, ap, ap₂, ◌∙◌, subst}
use mathlib.Core.Bool.{Bool, true, false, ◌&&◌, true≢false, false≢true, and-false}
use mathlib.Core.Logic.{◌⊎◌, inl, inr}
use mathlib.Core.List.{List, []}
use lib.Dec.{leb, eqb}
use lib.Seq.{slice}
use borrow.Author.Tests.{ne_eqb, le-leb, lt-leb}
use Rattle.std.specs.Prelude.{IfSome, is_some}
use Rattle.std.specs.Bool.{then_some}
use Rattle.std.specs.declared.option.Option.{Option}
use Rattle.units.specs.Reply.{accepted, refused}
use Rattle.slices.specs.Over.{over}
use Rattle.slices.proofs.Tests.{cond_case}
use Rattle.slices.proofs.Over.{over_nothing}
use Rattle.records.specs.Store.{Store, words_per_section}
use Rattle.records.specs.Sections.{Section}
use Rattle.calls.specs.Calls.{BuiltReply, Push, push_mark, push_op_byte, push_data, added, bytes_of, joins, with_section, push_reply, push_after}
use Rattle.calls.proofs.Refusals.{accepted_added, refused_same}
use Rattle.numbers.specs.Forms.{is_form, direct, delta}
use Rattle.job_steps.specs.declared.read.Step.{Step}
use Rattle.job_steps.specs.JobFormat.{is_listed, mark_step, op_step, data_step, direct_step, delta_step}
use Rattle.job_steps.specs.JobCalls.{in_form, step_call}

-- no kind but a delta's
pub record IsOther (kind : ℕ) : Type 0 where
  pub not_mark : kind ≡ mark_step → ⊥
  pub not_op : kind ≡ op_step → ⊥
  pub not_data : kind ≡ data_step → ⊥
  pub not_direct : kind ≡ direct_step → ⊥

module _ (count : ℕ) (s : Step) where
  pub listed_mark : s.kind ≡ mark_step → is_listed count s ≡ eqb s.second 0
  unfolding is_listed
  listed_mark e = rw e

  pub listed_op : s.kind ≡ op_step → is_listed count s ≡ leb s.first 255 && eqb s.second 0
  unfolding is_listed
  listed_op e = rw e

  pub listed_data : s.kind ≡ data_step → is_listed count s ≡ leb s.first s.second && leb s.second count
  unfolding is_listed
  listed_data e = rw e

  pub listed_direct : s.kind ≡ direct_step → is_listed count s ≡ is_form s.second
  unfolding is_listed
  listed_direct e = rw e

  pub listed_other : IsOther s.kind → is_listed count s ≡ leb delta_step s.kind && is_form (s.kind - delta_step)
  unfolding is_listed
  listed_other o =
      let mark = ne_eqb s.kind mark_step o.not_mark in
      let op = ne_eqb s.kind op_step o.not_op in
      let bytes = ne_eqb s.kind data_step o.not_data in
      let direct = ne_eqb s.kind direct_step o.not_direct in
      rw (mark, op, bytes, direct)

-- of two tests, the second where the first passes, and false where the first fails
pub second_test : (x a b : Bool) → x ≡ a && b → a ≡ true → b ≡ x
second_test x true b e h = sym e
second_test x false b e h = absurd (false≢true h)

pub first_test : (x a b : Bool) → x ≡ a && b → a ≡ false → false ≡ x
first_test x false b e h = sym e
first_test x true b e h = absurd (true≢false h)

-- an answer that a test decides
some_test : {X : Type 0} (b : Bool) (x : X) → is_some (then_some b x) ≡ b
some_test true x = refl
some_test false x = refl

if_test : {X : Type 0} (b : Bool) (x : X) (P : X → Type 0) → P x → IfSome (then_some b x) P
if_test true x P p = p
if_test false x P p = tt

module _ {X : Type 0} (r : Option X) (b : Bool) (x : X) (e : r ≡ then_some b x) where
  pub test_listed : is_some r ≡ b
  test_listed = ap is_some e ∙ some_test b x

  pub test_call : (P : X → Type 0) → P x → IfSome r P
  test_call P p = subst (λ (o : Option X). IfSome o P) (sym e) (if_test b x P p)

-- pool data is listed exactly if the pool has it
module _ (count : ℕ) (s : Step) (kind : s.kind ≡ data_step) where
  pub data_listed : (s.first ≤ s.second) × (s.second ≤ count) → true ≡ is_listed count s
  data_listed within = sym (listed_data count s kind ∙ ap₂ (λ (a b : Bool). a && b) (le-leb s.first s.second within.0) (le-leb s.second count within.1))

  pub data_unlisted : (s.second < s.first) ⊎ (count < s.second) → false ≡ is_listed count s
  data_unlisted (inl l) = sym (listed_data count s kind ∙ ap (λ (a : Bool). a && leb s.second count) (lt-leb s.first s.second l))
  data_unlisted (inr l) = sym (listed_data count s kind ∙ ap (λ (b : Bool). leb s.first s.second && b) (lt-leb s.second count l) ∙ and-false (leb s.first s.second))

-- ---- the call that it is

module _ (bytes : List ℕ) (s : Step) where
  pub call_mark : s.kind ≡ mark_step → push_mark s.first ≡ step_call bytes s
  unfolding step_call
  call_mark e = rw e

  pub call_op : s.kind ≡ op_step → push_op_byte s.first ≡ step_call bytes s
  unfolding step_call
  call_op e = rw e

  pub call_data : s.kind ≡ data_step → push_data (slice s.first s.second bytes) ≡ step_call bytes s
  unfolding step_call
  call_data e = rw e

  pub call_direct : s.kind ≡ direct_step → in_form (direct s.first) s.second ≡ step_call bytes s
  unfolding step_call
  call_direct e = rw e

  pub call_delta : IsOther s.kind → in_form (delta s.first s.second) (s.kind - delta_step) ≡ step_call bytes s
  unfolding step_call
  call_delta o =
      let mark = ne_eqb s.kind mark_step o.not_mark in
      let op = ne_eqb s.kind op_step o.not_op in
      let bytes = ne_eqb s.kind data_step o.not_data in
      let direct = ne_eqb s.kind direct_step o.not_direct in
      rw (mark, op, bytes, direct)

-- ---- what a call answers and leaves

-- adding a section that holds no bytes leaves the bytes as they are
section_leaves : (w : ℕ) (x : Section) (st : Store) → bytes_of x ≡ [] → (with_section w x st).bytes ≡ st.bytes
unfolding with_section
section_leaves w x st none =
    cond_case (λ (s : Store). s.bytes ≡ st.bytes) (joins w x st) _ _
    (λ _. ap (over st.bytes st.stored_bytes) none ∙ over_nothing st.bytes st.stored_bytes)
    (λ _. ap (over st.bytes st.stored_bytes) none ∙ over_nothing st.bytes st.stored_bytes)

-- so a call that adds one leaves them
pub bytes_left : (p : Push) (st : Store) → bytes_of (added p) ≡ [] → (push_after words_per_section p st).bytes ≡ st.bytes
bytes_left p st none = go (push_reply words_per_section p st) refl
  where
    go : (r : BuiltReply) → push_reply words_per_section p st ≡ r → (push_after words_per_section p st).bytes ≡ st.bytes
    go (accepted a) e = ap (λ (s : Store). s.bytes) (accepted_added words_per_section p st a e) ∙ section_leaves words_per_section (added p) st none
    go (refused n i k) e = ap (λ (s : Store). s.bytes) (refused_same words_per_section p st n i k e)

-- the reply, and the bytes and words afterwards
abbrev pub Answers : Push → Store → BuiltReply → List ℕ → List ℕ → Type 0
Answers p st r bytes words =
    (r ≡ push_reply words_per_section p st) × ((bytes ≡ (push_after words_per_section p st).bytes) × (words ≡ (push_after words_per_section p st).words))

-- of the call that a step is
pub as_step : (st : Store) {p q : Push} {r : BuiltReply} {bytes words : List ℕ} → p ≡ q → Answers p st r bytes words → Answers q st r bytes words
as_step st {r = r} {bytes = bytes} {words = words} e a = subst (λ (x : Push). Answers x st r bytes words) e a
