use Rattle.op_desk.proofs.EntryLaws.{bytes_at_place}
use Rattle.op_desk.proofs.shelf.Shelf.find.Goals as goal

pub returns : goal.returns
returns c =
    rw (← c.self.view_is)
    (bytes_at_place _ _ _ _ _ _ c.in_ok-place.ensures c.deref.ensures.value c.as_bytes.ensures.value c.index.ensures)
