use Rattle.std.proofs.Common.{◌≡◌, ◌∙◌, ap, [], Some, unwrap_or, rules}
use Rattle.vc_outside.specs.MemoryShelves.{left_at, content_at}
use Rattle.vc_outside.proofs.Reading.{taken_front}
use Rattle.vc_outside.proofs.memory_shelf.MemShelfShelf.read.Goals as goal

pub returns-clause-bytes : goal.returns-clause-bytes
returns-clause-bytes c =
    let files = c.self.inside.files.items in
    let place = c.in-Some.place in
    let rest = left_at files place.file place.at in
    let left_is : c.left_of.result.now ≡ rest = search rules in
    let told : c.args.self.now.left ≡ Some rest = search rules in
    let read
    = taken_front (content_at files place.file) place.at c.copy_front-count.result c.args.buffer.now
    c.copy_front-count.new.buffer
    (search rules) (search rules) (search rules) in
    (ap (λ l. unwrap_or l []) told ∙ read.0, read.1)
