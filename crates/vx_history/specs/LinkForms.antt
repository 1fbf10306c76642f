-- A link and a receiver of the world, in the form in which the rules of links and receivers take them.
use Rattle.std.specs.Prelude.{ℕ, ◌-◌, length}
use Rattle.vx_history.specs.World.{Node, Link}
use Rattle.vx_model.specs.declared.link.Link.{Link as PlainLink}
use Rattle.vx_history.specs.declared.receiver.RState.{RState}

-- the world's link to this site
abbrev pub plain_link : (site : ℕ) → Link → PlainLink
plain_link site l =
    record {
      site = site;
      bunker = l.bunker;
      attached = l.attached;
      connected = l.connected;
      paused = l.paused;
      sync = l.sync;
      prot = l.prot;
      session = l.session;
      net = l.net;
      stored = l.stored;
      sent = l.sent;
      trimmed = l.trimmed;
      mode = l.mode;
    }

-- the world's link with what a rule made of it
abbrev pub with_plain : Link → PlainLink → Link
with_plain l p =
    record l {
      connected = p.connected;
      paused = p.paused;
      session = p.session;
      net = p.net;
      stored = p.stored;
      sent = p.sent;
      trimmed = p.trimmed;
      mode = p.mode;
    }

-- a node of the world as a receiver: it waits with the records that a crash may lose
abbrev pub plain_receiver : Node → RState
plain_receiver n =
    record {
      line = n.line;
      last = length n.log;
      waiting = length n.log - n.safe;
      session = n.session;
      mark = n.mark;
      phase = n.phase;
      replay = n.replay;
      end = n.end;
    }
