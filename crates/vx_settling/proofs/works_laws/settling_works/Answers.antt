-- Each clause is its theorem.
use Rattle.std.proofs.Common.{◌≡◌, true}
use Rattle.vx_settling.proofs.Working.{cuts_apply, cuts_header, gives_up, lacks_apply, lacks_header, short_none, stops_apply, stops_header, stops_unread, works_apply, works_connect, works_deliver, works_keep_other, works_lose_other, works_none, works_pump, works_pump_other, works_take_other, works_tick}
use Rattle.vx_settling.proofs.works_laws.settling_works.Goals as goal

pub returns : goal.returns
returns c = record {
  none = λ t. works_none (t ≡ true);
  connect = λ t. works_connect (t ≡ true);
  tick = λ t. works_tick (t ≡ true);
  pump = λ t. works_pump (t ≡ true);
  pump_other = λ t. works_pump_other (t ≡ true);
  apply = λ t. works_apply (t ≡ true);
  deliver = λ t. works_deliver (t ≡ true);
  take_other = λ t. works_take_other (t ≡ true);
  keep_other = λ t. works_keep_other (t ≡ true);
  lose_other = λ t. works_lose_other (t ≡ true);
  unread = λ t. stops_unread (t ≡ true);
  header = λ t. stops_header (t ≡ true);
  header_cut = λ t. cuts_header (t ≡ true);
  header_lacks = λ t. lacks_header (t ≡ true);
  applying = λ t. stops_apply (t ≡ true);
  applying_cut = λ t. cuts_apply (t ≡ true);
  applying_lacks = λ t. lacks_apply (t ≡ true);
  gives_up = λ t. gives_up (t ≡ true);
  short = λ t. short_none (t ≡ true);
}
