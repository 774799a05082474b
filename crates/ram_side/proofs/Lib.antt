mod Opens
mod Failing
