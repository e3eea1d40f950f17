mod Requests
mod Serving
