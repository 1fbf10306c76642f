-- Each clause is part of its theorem.
use Rattle.vx_history.specs.Events.{link_attached, link_detached, link_with}
use Rattle.vx_history.specs.declared.event.Event.TheVariants.{Attach, Deliver, Detach, Link, Set}
use Rattle.vx_history.specs.declared.event.LinkPart.TheVariants.{Joins, Made, Marked, Opened}
use Rattle.vx_world.proofs.Alone.{counted_alone, set_alone, heard_by, joins_alone, made_alone, marked_alone, opened_alone}
use Rattle.vx_world.proofs.laws.changes_one_site.Goals as goal

pub returns : goal.returns
returns c = record {
  settings = λ w s q sync prot up. counted_alone w s (Set s q sync prot) (set_alone w s up q (λ l. link_with sync prot l));
  attaches = λ w s q up. counted_alone w s (Attach s q) (set_alone w s up q link_attached);
  detaches = λ w s q up. counted_alone w s (Detach s q) (set_alone w s up q link_detached);
  heard = λ w s number p up at target none. counted_alone w s (Deliver number) (heard_by w s up number p at target none);
  joins = λ w s p sync prot up. counted_alone w s (Link p s sync prot Joins) (joins_alone w s up p sync prot);
  made = λ w s q sync prot up. counted_alone w s (Link s q sync prot Made) (made_alone w s up q sync prot);
  marked = λ w s p sync prot up. counted_alone w s (Link p s sync prot Marked) (marked_alone w s up p sync prot);
  opened = λ w s q sync prot up. counted_alone w s (Link s q sync prot Opened) (opened_alone w s up q sync prot);
}
