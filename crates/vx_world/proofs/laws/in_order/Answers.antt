-- Each clause is part of what holds of a sound world.
use Rattle.vx_history.specs.Step.{run}
use Rattle.vx_world.proofs.Stays.{run_keeps}
use Rattle.vx_world.proofs.Words.{whole_content, answered_kept, maps_cover, promise_kept, update_is}
use Rattle.vx_world.proofs.laws.in_order.Goals as goal

pub returns : goal.returns
returns c = record {
  first_part = λ w events i s made r. ((run_keeps w events s).good.nodes i).receiver_log made r;
  content = λ w events i s. whole_content (run w events) i (run_keeps w events s);
  durable = λ w events i s made o. ((run_keeps w events s).good.nodes i).origin_log made o;
  answered = λ w events i s made o. answered_kept (run w events) i (run_keeps w events s) made o;
  promised = λ w events k e s found. promise_kept (run w events) k e (run_keeps w events s) found;
  maps = λ w events p s volume block sound origin follows is unmarked. maps_cover (run w events) p s volume block (run_keeps w events sound) origin follows is unmarked;
  updates = λ w events k number p x s found is. update_is (run w events) k number p x (run_keeps w events s) found is;
}
