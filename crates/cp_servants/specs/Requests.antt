-- What calls ask for, read in place.
use Rattle.cp_refs.specs.declared.call.Request.{Request}
use Rattle.cp_servants.specs.declared.request.RequestView.{RequestView}

-- the same request, with its content as its tree
abbrev pub request_of : RequestView → Request
request_of r = record { interface = r.interface; method = r.method; content = r.content; caps = r.caps }
