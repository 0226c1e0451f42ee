use Rattle.model.proofs.Loops.{long}
use Rattle.menu.proofs.Gaining.{labels_by}
use Rattle.menu.proofs.rows.Offers.prepare.Goals as goal

pub prepare_labelled-requires : goal.prepare_labelled-requires
prepare_labelled-requires c =
    let p = rw (← c.self.view_is) at c.requires in
    let e = rw c.from.ensures at c.fill_rests.ensures in
    rw (← c.self.view_is) (long _ _ e, labels_by _ _ e c.fill_labels.ensures, p.2)
