use Rattle.op_desk.proofs.EntryLaws.{files_of-set_at_place, files_of-push_new}
use Rattle.op_desk.proofs.ShelfLaws.{IsNamedOnce-with_file}
use Rattle.op_desk.proofs.shelf.put_entry.Goals as goal

pub returns-in-Some-clause-ok : goal.returns-in-Some-clause-ok
returns-in-Some-clause-ok c =
    files_of-set_at_place _ _ _ _ c.args.entry c.in-Some.ensures c.deref.ensures.value c.as_slice.ensures

pub returns-in-Some-clause-once : goal.returns-in-Some-clause-once
returns-in-Some-clause-once c = λ h.
    rw (files_of-set_at_place _ _ _ _ c.args.entry c.in-Some.ensures c.deref.ensures.value c.as_slice.ensures)
    (IsNamedOnce-with_file _ _ _ h)

pub returns-in_ok-push-in-None-clause-ok : goal.returns-in_ok-push-in-None-clause-ok
returns-in_ok-push-in-None-clause-ok c =
    rw c.in_ok-push-in-None.ensures.items
    (files_of-push_new _ _ _ c.args.entry c.in-None.ensures c.deref.ensures.value c.as_slice.ensures)

pub returns-in_ok-push-in-None-clause-once : goal.returns-in_ok-push-in-None-clause-once
returns-in_ok-push-in-None-clause-once c = λ h.
    rw (c.in_ok-push-in-None.ensures.items, files_of-push_new _ _ _ c.args.entry c.in-None.ensures c.deref.ensures.value c.as_slice.ensures)
    (IsNamedOnce-with_file _ _ _ h)
