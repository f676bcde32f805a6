-- Lists of building calls, made one after another; and calls in turn, all or nothing, beside them. Assumes nothing.
use Prim.Native.Nat.{ℕ, ◌≤◌}
use mathlib.Core.Path.{◌≡◌, refl, sym, ap, ◌∙◌, subst}
use mathlib.Core.Logic.{◌↔◌}
use mathlib.Core.List.{List, [], ◌∷◌, map}
use Rattle.units.specs.Reply.{accepted, refused}
use Rattle.records.specs.declared.Assembler.{Assembler}
use Rattle.records.specs.Store.{Store}
use Rattle.records.specs.Sections.{decode}
use Rattle.calls.specs.Calls.{BuiltReply, Push, Call, push, push_reply, push_after, all_reply, each_after, emptied, call_reply, call_after, run_replies, run_after}
use Rattle.calls.specs.Lists.{run_list}
use Rattle.undamaged.specs.View.{Undamaged}
use Rattle.calls.specs.Answers.{IsStored, EveryStored, FirstRefused}
use Rattle.calls.proofs.Refusals.{accepted_refused, all_next, all_refused, all_first}
use Rattle.calls.proofs.Calls.{emptied_undamaged, emptied_decode, call_accepted, call_undamaged}

-- refused or not, calls leave an undamaged store undamaged
pub run_undamaged : (w : ℕ) (cs : List Call) (st : Store) → 3 ≤ w → Undamaged w st → Undamaged w (run_after w cs st)
unfolding run_after
run_undamaged w [] st h u = u
run_undamaged w (c ∷ cs) st h u = run_undamaged w cs (call_after w c st) h (call_undamaged w c st h u)

-- the counts that an accepted call answered
counts_of_lem : (r : BuiltReply) → IsStored r → (a : Assembler) × (r ≡ accepted a)
counts_of_lem (accepted a) t = (a, refl)
counts_of_lem (refused n i k) t = absurd t

-- if every call is accepted, the list afterwards is the one that `run_list` says
pub run_list_lem : (w : ℕ) (cs : List Call) (st : Store) → 3 ≤ w → Undamaged w st → EveryStored (run_replies w cs st) → decode w (run_after w cs st) ≡ run_list cs (decode w st)
unfolding run_replies run_after run_list
run_list_lem w [] st h u t = refl
run_list_lem w (c ∷ cs) st h u t =
    let r = counts_of_lem (call_reply w c st) t.0 in
    let a = call_accepted w c st r.0 h u r.1 in
    run_list_lem w cs (call_after w c st) h a.undamaged t.1 ∙ ap (run_list cs) a.list

-- from an emptied store the list is what the calls make of the empty one
pub run_from_empty : (w : ℕ) (cs : List Call) (st : Store) → 3 ≤ w → EveryStored (run_replies w cs (emptied st))
    → Undamaged w (run_after w cs (emptied st)) × (decode w (run_after w cs (emptied st)) ≡ run_list cs [])
run_from_empty w cs st h t =
    let u = emptied_undamaged w st in
    (run_undamaged w cs (emptied st) h u, run_list_lem w cs (emptied st) h u t ∙ ap (run_list cs) (emptied_decode w st))

-- ---- calls in turn, all or nothing

-- each in turn is the list of these calls
pub each_run : (w : ℕ) (ps : List Push) (st : Store) → each_after w ps st ≡ run_after w (map push ps) st
unfolding each_after run_after
each_run w [] st = refl
each_run w (p ∷ ps) st = each_run w ps (push_after w p st)

-- all are accepted exactly if every call of that list is
pub all_stored : (w : ℕ) (ps : List Push) (st : Store) → IsStored (all_reply w ps st) ↔ EveryStored (run_replies w (map push ps) st)
unfolding all_reply run_replies
all_stored w [] st = (λ _. tt, λ _. tt)
all_stored w (p ∷ ps) st =
    let rest = all_stored w ps (push_after w p st) in (
      λ t.
          let all = counts_of_lem (all_reply w (p ∷ ps) st) t in
          let first = all_first w p ps st all.0 all.1 in
          (subst IsStored (sym first.1) tt, rest.0 (subst IsStored (sym first.2) tt)),
      λ t.
          let first = counts_of_lem (push_reply w p st) t.0 in
          subst IsStored (sym (all_next w p ps st first.0 first.1)) (rest.1 t.1),
    )

-- one call more before those that were accepted
refused_later : (w : ℕ) (p : Push) (ps : List Push) (st : Store) (a : Assembler) (n i k : ℕ) → push_reply w p st ≡ accepted a
    → FirstRefused w ps (push_after w p st) n i k → FirstRefused w (p ∷ ps) st n i k
unfolding each_after
refused_later w p ps st a n i k e r =
    record {
      before = p ∷ r.before;
      call = r.call;
      others = r.others;
      split = ap (λ (l : List Push). p ∷ l) r.split;
      stored = (r.stored.0, all_next w p r.before st a e ∙ r.stored.1);
      refusal = r.refusal;
    }

-- a refusal is that of the first call that is refused
pub first_refused : (w : ℕ) (ps : List Push) (st : Store) (n i k : ℕ) → all_reply w ps st ≡ refused n i k → FirstRefused w ps st n i k
unfolding all_reply each_after
first_refused w [] st n i k e = absurd (accepted_refused e)
first_refused w (p ∷ ps) st n i k e = go (push_reply w p st) refl (λ q. first_refused w ps (push_after w p st) n i k q)
  where
    go : (r : BuiltReply) → push_reply w p st ≡ r → (all_reply w ps (push_after w p st) ≡ refused n i k → FirstRefused w ps (push_after w p st) n i k)
        → FirstRefused w (p ∷ ps) st n i k
    go (accepted a) x rest = refused_later w p ps st a n i k x (rest (sym (all_next w p ps st a x) ∙ e))
    go (refused m j l) x rest =
        record {
          before = [];
          call = p;
          others = ps;
          split = refl;
          stored = (_, refl);
          refusal = x ∙ sym (all_refused w p ps st m j l x) ∙ e;
        }
