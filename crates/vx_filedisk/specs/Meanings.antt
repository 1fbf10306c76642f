-- What a rack means.
use Rattle.vx_disk.specs.Meanings.{shelf_meaning}
use Rattle.vx_disk.specs.Shelf.{Meaning}
use Rattle.vx_filedisk.specs.declared.host.HostRack.{HostRack}
use Rattle.vx_filedisk.specs.Counting.{counts_of}
use Rattle.vx_filedisk.specs.Hosts.{host_meaning}

abbrev pub rack_meaning : HostRack → Meaning
rack_meaning h = host_meaning h.files (counts_of h.counts) (shelf_meaning h.memory)
