-- What the building calls do to the list of sections. Assumes nothing.
use Rattle.std.specs.Prelude.{List, [], ◌∷◌, ◌++◌, ℕ}
use Rattle.records.specs.Sections.{Section, mark, ops, bytes, reference}
use Rattle.calls.specs.Calls.{Push, Call, push, push_op_bytes, clear, added, each_op_byte}

-- op bytes after an Ops section whose bytes are bs extend it
abbrev pub after_ops : List ℕ → Section → List Section
after_ops bs (mark m) = ops bs ∷ mark m ∷ []
after_ops bs (ops new) = ops (bs ++ new) ∷ []
after_ops bs (bytes new) = ops bs ∷ bytes new ∷ []
after_ops bs (reference r) = ops bs ∷ reference r ∷ []

-- data after a Data section whose bytes are bs extend it
abbrev pub after_bytes : List ℕ → Section → List Section
after_bytes bs (mark m) = bytes bs ∷ mark m ∷ []
after_bytes bs (ops new) = bytes bs ∷ ops new ∷ []
after_bytes bs (bytes new) = bytes (bs ++ new) ∷ []
after_bytes bs (reference r) = bytes bs ∷ reference r ∷ []

-- the last section, and what is added after it
abbrev pub after_last : Section → Section → List Section
after_last (mark m) s = mark m ∷ s ∷ []
after_last (ops bs) s = after_ops bs s
after_last (bytes bs) s = after_bytes bs s
after_last (reference r) s = reference r ∷ s ∷ []

-- a section added to a list that begins with x
unfoldable pub added_after : Section → List Section → Section → List Section
added_after x [] s = after_last x s
added_after x (y ∷ ys) s = x ∷ added_after y ys s

-- a section added to a list: it joins the last one if both are Ops or both are Data
unfoldable pub added_to : List Section → Section → List Section
added_to [] s = s ∷ []
added_to (x ∷ xs) s = added_after x xs s

-- calls that each add a section, in turn
unfoldable pub added_each : List Section → List Push → List Section
added_each l [] = l
added_each l (p ∷ ps) = added_each (added_to l (added p)) ps

-- what a call does to the list of sections
abbrev pub call_list : Call → List Section → List Section
call_list (push p) l = added_to l (added p)
call_list (push_op_bytes bs) l = added_each l (each_op_byte bs)
call_list clear l = []

-- what a list of calls does to it
unfoldable pub run_list : List Call → List Section → List Section
run_list [] l = l
run_list (c ∷ cs) l = run_list cs (call_list c l)
