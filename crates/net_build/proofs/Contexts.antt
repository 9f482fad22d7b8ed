-- What stands around the cells of a module, as the code looks it up.
use Rattle.std.proofs.Common.{◌≡◌, ℕ, List, Option, sym}
use Rattle.lib_core.specs.declared.library.Library.{Library}
use Rattle.rtlil_text.specs.declared.doc.DocModule.{DocModule}
use Rattle.cell_rows.specs.Kinds.{found, place_of}
use Rattle.net_gather.specs.declared.faces.Faces.{Faces}
use Rattle.net_gather.specs.Faces.{Shows}
use Rattle.net_gather.specs.Gather.{context}
use Rattle.net_gather.proofs.Interfaces as interfaces
use Rattle.net_build.specs.Means.{context_in, ram_names}

pub context_is : (lib : Library) (ram : List ℕ → Option ℕ) (faces : Faces) (modules : List DocModule) (d : DocModule) → ((name : List ℕ) → ram name ≡ place_of (ram_names lib) name) → Shows modules faces
    → context lib ram faces d.items ≡ context_in lib modules d
context_is lib ram faces modules d rams shows = λ i. record {
  library = lib;
  names = (context lib ram faces d.items).names;
  memory = (context lib ram faces d.items).memory;
  ram = λ name. rams name i;
  instance = λ name. shows.places name i;
  drives = λ kind pin. interfaces.shown_drive modules faces shows kind pin i;
  tied = (context lib ram faces d.items).tied;
}
