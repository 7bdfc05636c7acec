use Rattle.addr_text.proofs.Scanning.{parts_start}
use Rattle.addr_text.proofs.scan.split_once.Goals as goal

pub places-init : goal.places-init
places-init c = parts_start c.args.separator c.args.text.now
